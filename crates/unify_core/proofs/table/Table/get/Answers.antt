use Rattle.std.proofs.Common.{List, ℕ, sym, ap, ◌∙◌, subst}
use Rattle.unify_core.specs.Sides.{Binding}
use Rattle.unify_core.specs.Table.{Bound_table, bound_of, ArePlaces}
use Rattle.unify_core.proofs.table.Table.get.Goals as goal

pub at_place-requires-clause-places : goal.at_place-requires-clause-places
at_place-requires-clause-places c =
    subst (λ (es : List Binding). ArePlaces es c.as_slice-places.result.now) (sym c.as_slice-bound.ensures.value)
    (subst (λ (ps : List ℕ). ArePlaces c.self.inside.bound.items ps) (sym c.as_slice-places.ensures.value) c.self.invariant)

pub returns-in-Some : goal.returns-in-Some
returns-in-Some c = c.at_place.ensures ∙ ap (bound_of c.args.x) (c.as_slice-bound.ensures.value ∙ ap (λ (v : Bound_table). v.entries) c.self.view_is)

pub returns-in-None : goal.returns-in-None
returns-in-None c = c.along.ensures ∙ ap (bound_of c.args.x) (c.as_slice-bound.ensures.value ∙ ap (λ (v : Bound_table). v.entries) c.self.view_is)
