use Rattle.std.proofs.Common.{◌+◌, List, take, sym, ◌∙◌, subst}
use Rattle.std.specs.List.{AllZip}
use Rattle.prop_logic.specs.declared.literal.Hint.{Hint}
use Rattle.cdcl_core.specs.Cut.{IsRenamed}
use Rattle.cdcl_core.proofs.CutLaws.{zip_more}
use Rattle.cdcl_core.proofs.cut.renumber.Goals as goal

pub loop-hint-preserved : goal.loop-hint-preserved
loop-hint-preserved c =
    let R = IsRenamed c.args.numbers.now in
    let i = c.loop-hint.hint-index in
    let d = c.hint-item.result in
    subst (AllZip R (take (i + 1) c.args.hints.now)) (sym {A = List Hint} c.in_ok-push.ensures.items)
    (zip_more R c.args.hints.now c.loop-hint.others.items i d c.renumber_one.result c.loop-hint-test.true c.loop-hint.invariant (subst (λ h. IsRenamed c.args.numbers.now h c.renumber_one.result) (c.hint.ensures ∙ c.hint-item.is) c.renumber_one.ensures))
