use Rattle.std.proofs.Common.{◌≡◌, ℕ, ◌<◌}
use Rattle.std.specs.Prelude.{slice_get, option_map}
use Rattle.term_bank.specs.Forest.{AreFormed, Extends, clause_at}
use Rattle.cert_front.proofs.difference.first_difference.Given as goal

abbrev pub invariant-loop-i : goal.invariant-loop-i
invariant-loop-i l = record {
  extends : Extends l.fn.bank l.bank;
  formed : AreFormed l.bank;
  before : (k : ℕ) → k < l.i → option_map (clause_at l.fn.bank) (slice_get l.inputs k) ≡ slice_get l.clauses k;
}
