use Rattle.std.proofs.Common.{sym, ap, ◌∙◌}
use Rattle.cdcl_core.proofs.ListedLaws.{part_at, last_at}
use Rattle.cdcl_core.proofs.cut.hints_at.Goals as goal

pub returns-in-Some : goal.returns-in-Some
returns-in-Some c = λ s at. part_at (λ t. t.hints) c.args.steps.now c.args.last.now s c.args.place c.in-Some.hints.now (sym c.in-Some.ensures) at

pub returns-in-None : goal.returns-in-None
returns-in-None c = λ s at. c.as_slice.ensures.value ∙ ap (λ t. t.hints) c.last.view_is ∙ ap (λ t. t.hints) (last_at (λ t. t.hints) c.args.steps.now c.args.last.now s c.args.place c.requires (sym c.in-None.ensures) at)
