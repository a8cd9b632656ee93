use Rattle.std.proofs.Common.{◌≡◌, ℕ, List, length, Some}
use Rattle.std.specs.Prelude.{slice_get}
use Rattle.inst_logic.specs.declared.signed.Signed.{Signed}
use Rattle.inst_logic.specs.Derivations.{at_number}
use Rattle.instgen_loop.specs.LineNumbers.{clauses_of}
use Rattle.instgen_loop.specs.Refuting.{ground_clause}
use Rattle.instgen_loop.proofs.line_numbers.numbers_in.Given as goal

abbrev pub invariant-loop-i : goal.invariant-loop-i
invariant-loop-i l = record {
  count : length l.numbers.items ≡ l.i;
  each : (i n : ℕ) (c : List (Signed ℕ)) → slice_get l.numbers.items i ≡ Some n → slice_get l.clauses i ≡ Some c → at_number (clauses_of l._lines) n ≡ Some (ground_clause l.abstraction.ids c);
}
