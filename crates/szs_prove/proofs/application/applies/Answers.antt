use Rattle.std.proofs.Common.{sym, ap, ◌∙◌, arith}
use Rattle.std.specs.List.{list_any}
use Rattle.inst_logic.specs.LiteralView.{literal}
use Rattle.inst_logic.specs.Clauses.{TreeClause}
use Rattle.inst_logic.proofs.Sums.{list_any_found, list_any_none}
use Rattle.szs_prove.specs.Applications.{atom_has_application}
use Rattle.szs_prove.proofs.OutermostFunctions.{none_so_far}
use Rattle.szs_prove.proofs.application.applies.Goals as goal

pub loop-l-preserved : goal.loop-l-preserved
loop-l-preserved c =
    none_so_far (λ x. atom_has_application (literal x).atom) c.as_slice-l-items.result.now c.loop-l.l-index c.l-item.result (omega arith) c.loop-l.invariant
    (ap (λ x. atom_has_application (literal x).atom) (sym c.l-item.is) ∙ (sym c.has_application.ensures ∙ c.if-has_application.false))

pub returns-then-has_application : goal.returns-then-has_application
returns-then-has_application c =
    sym (ap (λ (d : TreeClause). list_any (λ l. atom_has_application l.atom) d) (sym c.as_slice-l-items.ensures)
    ∙ list_any_found (λ l. atom_has_application l.atom) literal c.as_slice-l-items.result.now c.loop-l.l-index c.l-item.result (omega arith)
    (ap (λ x. atom_has_application (literal x).atom) (sym c.l-item.is) ∙ (sym c.has_application.ensures ∙ c.if-has_application.true)))

pub returns : goal.returns
returns c =
    sym (ap (λ (d : TreeClause). list_any (λ l. atom_has_application l.atom) d) (sym c.as_slice-l-items.ensures)
    ∙ list_any_none (λ l. atom_has_application l.atom) literal c.as_slice-l-items.result.now c.loop-l.l-index (omega arith) c.loop-l.invariant)
