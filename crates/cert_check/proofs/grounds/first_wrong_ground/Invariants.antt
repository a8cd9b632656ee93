use Rattle.std.proofs.Common.{◌≡◌, ℕ, ◌<◌, map}
use Rattle.std.specs.Prelude.{slice_get}
use Rattle.inst_logic.specs.Tree.{app, none}
use Rattle.term_bank.specs.Forest.{IsAt, clause_at}
use Rattle.cert_values.specs.Wholes.{IsWholeBase, KeepsBase}
use Rattle.cert_check.proofs.GroundMembers.{abstractions}
use Rattle.cert_check.proofs.grounds.first_wrong_ground.Given as goal

abbrev pub invariant-loop-i : goal.invariant-loop-i
invariant-loop-i l = record {
  constant : IsAt l.base.bank l.constant (app l.bot none);
  right : (k : ℕ) → k < l.i → slice_get (map (clause_at l.fn.base.bank) l.grounds) k ≡ slice_get (abstractions l.bot l.fn.base.bank l.fn.base.members) k;
  kept : KeepsBase l.fn.base l.base;
  whole : IsWholeBase l.base;
}
