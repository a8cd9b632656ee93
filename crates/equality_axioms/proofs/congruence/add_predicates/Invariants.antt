use Rattle.std.proofs.Common.{◌≡◌, ◌++◌, map, take}
use Rattle.std.specs.Prelude.{filter}
use Rattle.inst_calculus.specs.Axioms.{predicate_congruence, is_of_kind, is_predicate_kind}
use Rattle.equality_axioms.proofs.congruence.add_predicates.Given as goal

abbrev pub invariant-loop-s : goal.invariant-loop-s
invariant-loop-s l = l.axioms ≡ l.initial.axioms ++ map predicate_congruence (filter (is_of_kind is_predicate_kind) (take l.s-index l.symbols))
