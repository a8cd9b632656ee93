use Rattle.std.proofs.Common.{◌≡◌, ◌<◌, ◌-◌, length}
use Rattle.inst_logic.specs.Signed.{complement}
use Rattle.cert_index.specs.Chains.{HaveOpposite}
use Rattle.cert_index.specs.Partners.{head_at}
use Rattle.cert_index.proofs.meetings.find_opposite_heads.Given as goal

abbrev pub invariant-loop-q : goal.invariant-loop-q
invariant-loop-q l = record {
  at : l.q < length l.classes.heads.items → head_at l.classes.heads.items l.q ≡ complement (head_at l.classes.heads.items l.p);
  opposite : HaveOpposite l.classes.heads.items l.p l.q l.opposite.items;
}

abbrev pub decreases-loop-q : goal.decreases-loop-q
decreases-loop-q l = length l.classes.same.items - l.q
