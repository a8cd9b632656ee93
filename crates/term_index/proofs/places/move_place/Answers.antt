use Rattle.std.proofs.Common.{◌∙◌, ℕ, Option, Some, None, sym, ap, refl, subst}
use Rattle.std.specs.Option.{IsSome}
use Rattle.term_index.specs.Paths.{PlaceLists, place_of}
use Rattle.term_index.specs.Lists.{IsNoted}
use Rattle.term_index.specs.contracts.places.Places.{the_view}
use Rattle.term_index.proofs.PlaceLaws.{noted_span, known_span}
use Rattle.term_index.proofs.places.move_place.Goals.{in-Some, in_default}
use Rattle.term_index.proofs.places.move_place.Goals as goal

pub returns : goal.returns
returns c =
    let es = c.args.edges.now.keys in
    let s = c.args.span in
    let old : PlaceLists = record { ends = c.places.inside.ends.items; spans = c.places.inside.spans.entries } in
    let long = sym c.is_step.ensures ∙ c.if-is_step.false in
    let known = known_span es old s c.requires.known.0 long (ap (λ (ps : PlaceLists). place_of es ps s) c.places.view_is ∙ c.requires.known.1) in
    elim c.match-get_mut.branch [
      | in-Some w ↦ (let some = subst (λ (o : Option ℕ). IsSome o) (sym known) refl in
          let new : PlaceLists = record { ends = c.places.inside.ends.items; spans = (c.get_mut.follows.lender c.args.place).entries } in
          subst (λ x. IsNoted es c.args.places.now (the_view x) s c.args.place) (sym w.places-inside-is)
          (subst (λ (ps : PlaceLists). IsNoted es ps new s c.args.place) c.places.view_is (noted_span es old new s c.args.place long refl ((c.get_mut.follows.holds c.args.place).3 some).0)))
      | in_default w ↦ (let k : Path (Option ℕ) None (Some c.requires.known.0) = w.in_default.ensures.value ∙ known in absurd (cc))
    ]
