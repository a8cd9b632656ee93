use Rattle.std.proofs.Common.{sym, ap, ◌∙◌, get_or, arith, List}
use Rattle.inst_logic.specs.Clauses.{TreeClause}
use Rattle.szs_prove.proofs.OutermostFunctions.{first_found, free_so_far}
use Rattle.szs_prove.proofs.application.first_with_functions.Goals as goal

pub loop-i-preserved : goal.loop-i-preserved
loop-i-preserved c =
    free_so_far c.args.p.now.clauses c.loop-i.i c.index-as_slice-i.result c.requires.formed (omega arith)
    (c.index-as_slice-i.is ∙ ap (λ (cs : List TreeClause). get_or cs c.loop-i.i c.index-as_slice-i.result) c.as_slice.ensures) c.loop-i.invariant (sym c.applies.ensures ∙ c.if-applies.false)

pub returns-then-applies : goal.returns-then-applies
returns-then-applies c =
    first_found c.args.p.now.clauses c.loop-i.i c.index-as_slice-i.result c.requires.formed (omega arith)
    (c.index-as_slice-i.is ∙ ap (λ (cs : List TreeClause). get_or cs c.loop-i.i c.index-as_slice-i.result) c.as_slice.ensures) c.loop-i.invariant (sym c.applies.ensures ∙ c.if-applies.true)
