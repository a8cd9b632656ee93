use Rattle.std.proofs.Common.{◌∙◌, sym, refl, subst}
use Rattle.term_index.specs.Paths.{PlaceLists}
use Rattle.term_index.specs.Lists.{IsNoted}
use Rattle.term_index.proofs.PlaceLaws.{noted_span}
use Rattle.term_index.proofs.places.note_place.Goals as goal

pub returns : goal.returns
returns c =
    let es = c.args.edges.now.keys in
    let old : PlaceLists = record { ends = c.places.inside.ends.items; spans = c.places.inside.spans.entries } in
    let new : PlaceLists = record { ends = c.places.inside.ends.items; spans = c.insert.new.self.entries } in
    subst (λ (ps : PlaceLists). IsNoted es ps new c.args.span c.args.place) c.places.view_is
    (noted_span es old new c.args.span c.args.place (sym c.is_step.ensures ∙ c.if-is_step.false) refl c.in_ok-insert.ensures.updates.0)
