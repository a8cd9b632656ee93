use Rattle.std.proofs.Common.{◌≡◌, fold, take}
use Rattle.term_bank.specs.Forest.{tree_at}
use Rattle.cert_check.specs.SymbolSteps.{AreClosed, with_symbols}
use Rattle.cert_check.proofs.walk.add_clause.Given as goal

abbrev pub invariant-loop-l : goal.invariant-loop-l
invariant-loop-l l = record {
  symbols : l.found.keys ≡ fold (λ a x. with_symbols a (tree_at l.bank x.atom)) l.initial.found.keys (take l.l-index l.l-items);
  closed : AreClosed l.bank l.found.keys l.closed.keys;
}
