use Rattle.std.proofs.Common.{sym, ap, ◌∙◌, arith}
use Rattle.inst_logic.specs.View.{tree}
use Rattle.szs_prove.specs.Applications.{is_application}
use Rattle.szs_prove.proofs.OutermostFunctions.{no_argument, none_so_far, some_argument}
use Rattle.szs_prove.proofs.application.has_application.Goals as goal

pub loop-t-preserved : goal.loop-t-preserved
loop-t-preserved c =
    none_so_far (λ t. is_application (tree t)) c.as_slice-t-items.result.now c.loop-t.t-index c.t-item.result (omega arith) c.loop-t.invariant
    (ap (λ t. is_application (tree t)) (sym c.t-item.is) ∙ (sym c.is_application.ensures ∙ c.if-is_application.false))

pub returns-then-is_application : goal.returns-then-is_application
returns-then-is_application c =
    sym (some_argument c.args.l.now.sym c.args.l.now.args c.as_slice-t-items.result.now c.as_slice-t-items.ensures c.loop-t.t-index c.t-item.result (omega arith)
    (ap (λ t. is_application (tree t)) (sym c.t-item.is) ∙ (sym c.is_application.ensures ∙ c.if-is_application.true)))

pub returns : goal.returns
returns c = sym (no_argument c.args.l.now.sym c.args.l.now.args c.as_slice-t-items.result.now c.as_slice-t-items.ensures c.loop-t.t-index (omega arith) c.loop-t.invariant)
