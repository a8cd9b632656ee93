use Rattle.std.proofs.Common.{sym, ap, ◌∙◌, subst}
use Rattle.std.specs.Prelude.{IfSome}
use Rattle.instgen_loop.specs.declared.ending.Ending.{Ending}
use Rattle.instgen_run.specs.declared.state.Run.{Run}
use Rattle.instgen_loop.specs.Endings.{IsEndingAfter, entries_left}
use Rattle.instgen_run.specs.Logs.{Log}
use Rattle.instgen_run.specs.Marks.{events_of}
use Rattle.instgen_loop.specs.Tasks.{IsWithinBudget}
use Rattle.instgen_loop.proofs.outcome.ended_run.Goals as goal

pub returns-clause-ending : goal.returns-clause-ending
returns-clause-ending g c =
    let kept = c.replace-log.ensures.value ∙ ap (λ (r : Run _ _ _). r.log) c.deref_mut-2.ensures.value in
    subst (λ (l : Log). IfSome c.in_ok-ending.ending (λ (e : Ending). IsEndingAfter c.args.task.now e l)) (sym kept) c.in_ok-ending.ensures.ending

pub returns-clause-appended : goal.returns-clause-appended
returns-clause-appended g c =
    let kept = c.replace-log.ensures.value ∙ ap (λ (r : Run _ _ _). r.log) c.deref_mut-2.ensures.value in
    subst (λ (l : Log). IfSome c.in_ok-ending.ending (λ (e : Ending). IsWithinBudget c.args.task.now (events_of l (entries_left e)))) (sym kept) c.in_ok-ending.ensures.appended
