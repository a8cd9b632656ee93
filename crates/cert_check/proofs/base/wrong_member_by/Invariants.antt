use Rattle.std.proofs.Common.{ℕ, ◌+◌, ◌<◌}
use Rattle.cert_values.specs.Values.{base_of}
use Rattle.cert_values.specs.Wholes.{IsWholeBase, KeepsBase}
use Rattle.cert_check.specs.Stages.{IsAllowedMember}
use Rattle.cert_check.proofs.base.wrong_member_by.Given as goal

abbrev pub invariant-loop-i : goal.invariant-loop-i
invariant-loop-i l = record {
  kept : KeepsBase l.fn.base l.base;
  whole : IsWholeBase l.base;
  right : (m : ℕ) → m < l.i + 1 → IsAllowedMember l.lemmas (base_of l.fn.base) m;
}
