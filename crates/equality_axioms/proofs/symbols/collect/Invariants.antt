use Rattle.std.proofs.Common.{◌≡◌, fold, take, []}
use Rattle.inst_logic.specs.Equal.{sym_eq}
use Rattle.inst_logic.specs.Lists.{with_item}
use Rattle.inst_calculus.specs.Axioms.{clause_symbols}
use Rattle.equality_axioms.proofs.symbols.collect.Given as goal

abbrev pub invariant-loop-c : goal.invariant-loop-c
invariant-loop-c l = l.seen.keys ≡ fold (λ a x. fold (with_item sym_eq) a (clause_symbols x)) [] (take l.c-index l.c-items)
