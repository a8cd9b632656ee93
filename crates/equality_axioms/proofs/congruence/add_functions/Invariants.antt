use Rattle.std.proofs.Common.{◌≡◌, ◌++◌, map, take}
use Rattle.std.specs.Prelude.{filter}
use Rattle.inst_calculus.specs.Axioms.{function_congruence, is_of_kind}
use Rattle.inst_logic.specs.WellFormed.{is_function_kind}
use Rattle.equality_axioms.proofs.congruence.add_functions.Given as goal

abbrev pub invariant-loop-s : goal.invariant-loop-s
invariant-loop-s l = l.axioms ≡ l.initial.axioms ++ map function_congruence (filter (is_of_kind is_function_kind) (take l.s-index l.symbols))
