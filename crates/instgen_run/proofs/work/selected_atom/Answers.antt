use Rattle.std.proofs.Common.{◌≡◌, refl, ap, sym, ◌∙◌, List}
use Rattle.inst_logic.specs.Derivations.{at_number}
use Rattle.instgen_run.proofs.Selected.{literal_of, place_positive}
use Rattle.instgen_run.proofs.work.selected_atom.Goals as goal

pub literal_at-literal-requires : goal.literal_at-literal-requires
literal_at-literal-requires g c =
    let run = c.args.run.now in
    let (item, at, same) = c.clause_of.ensures in
    let (l, here) = literal_of run.entries.clauses.entries run.selection.places c.requires.safe.placed c.args.n c.place_of-place.result item c.place_of-place.ensures at in
    let q : item.0 ≡ c.as_slice.result.now = same ∙ sym c.as_slice.ensures in
    place_positive c.as_slice.result.now c.place_of-place.result l (ap (λ (xs : List _). at_number xs c.place_of-place.result) (sym q) ∙ here)

pub returns : goal.returns
returns g c =
    let (item, at, same) = c.clause_of.ensures in
    let q : item.0 ≡ c.as_slice.result.now = same ∙ sym c.as_slice.ensures in
    record {
      item = item;
      place = c.place_of-place.result;
      literal = c.literal_at-literal.result;
      item_at = at;
      place_at = c.place_of-place.ensures;
      literal_at = ap (λ (xs : List _). at_number xs c.place_of-place.result) q ∙ c.literal_at-literal.ensures;
      atom = refl;
    }
