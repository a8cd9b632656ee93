use Rattle.std.proofs.Common.{ℕ, List, [], ◌∷◌, ◌++◌, sym, ap, ◌∙◌, subst}
use Rattle.unify_core.specs.Sides.{Binding}
use Rattle.unify_core.specs.Table.{Bound_table, bound_of, ArePlaces, IsPlacedAt}
use Rattle.unify_core.proofs.Tables.{places_put, places_push}
use Rattle.unify_core.proofs.table.Table.insert.Goals as goal

pub invariant_of-self : goal.invariant_of-self
invariant_of-self c =
    places_put c.self.inside.bound.items c.args.x c.self.inside.places.items c.put_place.new.places.items c.self.invariant
    (ap (λ (v : Bound_table). bound_of c.args.x v.entries) c.self.view_is ∙ c.requires) c.put_place.ensures.longer c.put_place.ensures.kept

pub invariant_of-self-in_err-push : goal.invariant_of-self-in_err-push
invariant_of-self-in_err-push c =
    subst (λ (es : List Binding). ArePlaces es c.put_place.new.places.items) (sym c.in_err-push.ensures.items)
    (places_put c.self.inside.bound.items c.args.x c.self.inside.places.items c.put_place.new.places.items c.self.invariant
    (ap (λ (v : Bound_table). bound_of c.args.x v.entries) c.self.view_is ∙ c.requires) c.put_place.ensures.longer c.put_place.ensures.kept)

pub invariant_of-self-2 : goal.invariant_of-self-2
invariant_of-self-2 c =
    subst (λ (es : List Binding). ArePlaces es c.put_place.new.places.items) (sym c.in_ok-push.ensures.items)
    (places_push c.self.inside.bound.items c.args.x c.args.t c.put_place.new.places.items
    (places_put c.self.inside.bound.items c.args.x c.self.inside.places.items c.put_place.new.places.items c.self.invariant
    (ap (λ (v : Bound_table). bound_of c.args.x v.entries) c.self.view_is ∙ c.requires) c.put_place.ensures.longer c.put_place.ensures.kept)
    (subst (λ (n : ℕ). IsPlacedAt c.put_place.new.places.items n c.args.x) (c.len-place.ensures ∙ c.self.inside.bound.ok.0) c.in_ok-put_place.ensures.placed))

pub returns-clause-ok : goal.returns-clause-ok
returns-clause-ok c = c.in_ok-push.ensures.items ∙ ap (λ (v : Bound_table). v.entries ++ (c.args.x, c.args.t) ∷ []) c.self.view_is
