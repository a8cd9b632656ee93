use Rattle.std.proofs.Common.{length, sym, ap, ◌∙◌}
use Rattle.cdcl_core.proofs.ListedLaws.{length_steps}
use Rattle.cdcl_core.proofs.steps.Steps.len.Goals as goal

pub returns : goal.returns
returns c = c.len.ensures ∙ sym (length_steps c.self.inside.clauses c.self.inside.hints c.self.invariant) ∙ ap length c.self.view_is
