use Rattle.std.proofs.Common.{map, sym, ap, ◌∙◌}
use Rattle.std.specs.Prelude.{slice_get}
use Rattle.cdcl_core.proofs.ListedLaws.{hints_of}
use Rattle.cdcl_core.proofs.steps.Steps.hints.Goals as goal

pub returns : goal.returns
returns c = c.get.ensures ∙ ap (λ xs. slice_get xs c.args.place) (sym (hints_of c.self.inside.clauses c.self.inside.hints c.self.invariant)) ∙ ap (λ ss. slice_get (map (λ s. s.hints) ss) c.args.place) c.self.view_is
