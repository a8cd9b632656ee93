use Rattle.std.proofs.Common.{ℕ, ◌<◌, ◌≤◌, ◌^◌, length}
use Rattle.inst_calculus.specs.Models.{SelectedClause}
use Rattle.term_bank.specs.Forest.{arguments_of}
use Rattle.cert_format.specs.Validity.{SelectsAt}
use Rattle.cert_values.specs.Values.{saturation_of}
use Rattle.szs_prove.proofs.saturation_test.are_short.Given as goal

abbrev pub invariant-loop-i : goal.invariant-loop-i
invariant-loop-i l = (n : ℕ) (m : SelectedClause) → n ≤ l.i → SelectsAt (saturation_of l.cert) n m → length (arguments_of m.selected.atom) < 2 ^ 63
