use Rattle.std.proofs.Common.{◌≡◌, [], ◌∷◌, ◌++◌, get_or, sym, ◌∙◌, Some}
use Rattle.std.specs.Prelude.{slice_get}
use Rattle.std.proofs.lemmas.List.{take_more}
use Rattle.std.proofs.lemmas.Option.{get_or_from_slice_get}
use Rattle.cdcl_core.proofs.fresh_start.add_next.Goals as goal

pub returns-clause-added : goal.returns-clause-added
returns-clause-added c =
    let added = c.args.added.now in
    let place = c.args.place in
    let at : slice_get added place ≡ Some c.in-Some.clause.now = sym c.in-Some.ensures in
    let item : c.deref.result.now ≡ get_or added place [] = c.deref.ensures.value ∙ c.in_ok-literals-in-Some.ensures ∙ sym (get_or_from_slice_get added place c.in-Some.clause.now [] at) in
    let before = c.requires.before in
    c.in_ok-add-in-Some.ensures.added ∙ (λ i. before i ++ item i ∷ []) ∙ sym (take_more added place [] c.requires.within)
