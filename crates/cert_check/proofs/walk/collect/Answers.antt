use Rattle.std.proofs.Common.{◌∙◌, [], ap, fold}
use Rattle.std.proofs.lemmas.List.{take_all}
use Rattle.inst_logic.specs.Equal.{sym_eq}
use Rattle.inst_logic.specs.Lists.{with_item}
use Rattle.inst_calculus.specs.Axioms.{clause_symbols}
use Rattle.term_bank.specs.Forest.{clause_at}
use Rattle.cert_check.proofs.SymbolWalk.{collect_clauses}
use Rattle.cert_check.proofs.walk.collect.Goals as goal

pub returns : goal.returns
returns c =
    let f = c.args.bank.now in
    c.loop-c.invariant.symbols
    ∙ ap (fold (λ a x. fold (with_item sym_eq) a (clause_symbols (clause_at f x))) []) (take_all c.loop-c.c-index c.as_slice-c-items.result.now c.loop-c-test.false ∙ c.as_slice-c-items.ensures)
    ∙ collect_clauses f c.args.clauses.now
