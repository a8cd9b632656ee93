use Rattle.std.proofs.Common.{sym, ap, ◌∙◌}
use Rattle.cdcl_core.proofs.ListedLaws.{part_at, last_at}
use Rattle.cdcl_core.proofs.cut.clause_at.Goals as goal

pub returns-in_ok-unpack-in-Some : goal.returns-in_ok-unpack-in-Some
returns-in_ok-unpack-in-Some c = λ s at. c.from.ensures ∙ c.in_ok-unpack-in-Some.ensures ∙ part_at (λ t. t.clause) c.args.steps.now c.args.last.now s c.args.place c.in-Some.clause.now (sym c.in-Some.ensures) at

pub returns-in_ok-from_slice-in-None : goal.returns-in_ok-from_slice-in-None
returns-in_ok-from_slice-in-None c = λ s at. c.from-in-None.ensures ∙ c.in_ok-from_slice-in-None.ensures.items ∙ c.as_slice.ensures ∙ ap (λ t. t.clause) c.last.view_is ∙ ap (λ t. t.clause) (last_at (λ t. t.clause) c.args.steps.now c.args.last.now s c.args.place c.requires (sym c.in-None.ensures) at)
