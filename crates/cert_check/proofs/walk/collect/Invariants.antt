use Rattle.std.proofs.Common.{◌≡◌, fold, take, []}
use Rattle.inst_logic.specs.Equal.{sym_eq}
use Rattle.inst_logic.specs.Lists.{with_item}
use Rattle.inst_calculus.specs.Axioms.{clause_symbols}
use Rattle.term_bank.specs.Forest.{clause_at}
use Rattle.cert_check.specs.SymbolSteps.{AreClosed}
use Rattle.cert_check.proofs.walk.collect.Given as goal

abbrev pub invariant-loop-c : goal.invariant-loop-c
invariant-loop-c l = record {
  symbols : l.found.keys ≡ fold (λ a x. fold (with_item sym_eq) a (clause_symbols (clause_at l.bank x))) [] (take l.c-index l.c-items);
  closed : AreClosed l.bank l.found.keys l.closed.keys;
}
