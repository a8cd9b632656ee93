use Rattle.std.proofs.Common.{take}
use Rattle.std.specs.Prelude.{IsTrue}
use Rattle.inst_logic.specs.Measure.{is_function_free}
use Rattle.szs_prove.proofs.application.first_with_functions.Given as goal

abbrev pub invariant-loop-i : goal.invariant-loop-i
invariant-loop-i l = IsTrue (is_function_free (take l.i l.p.clauses))
