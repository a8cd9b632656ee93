use Rattle.std.proofs.Common.{◌∙◌, ap, fold}
use Rattle.std.proofs.lemmas.List.{take_all}
use Rattle.term_bank.specs.Forest.{tree_at}
use Rattle.cert_check.specs.SymbolSteps.{with_symbols}
use Rattle.cert_check.proofs.SymbolWalk.{collect_ids}
use Rattle.cert_check.proofs.walk.add_clause.Goals as goal

pub returns-clause-symbols : goal.returns-clause-symbols
returns-clause-symbols c =
    let f = c.args.bank.now in
    let keys = c.args.found.now.keys in
    c.loop-l.invariant.symbols
    ∙ ap (fold (λ a l. with_symbols a (tree_at f l.atom)) keys) (take_all c.loop-l.l-index c.as_slice-l-items.result.now c.loop-l-test.false ∙ c.as_slice-l-items.ensures)
    ∙ collect_ids f keys c.args.c.now
