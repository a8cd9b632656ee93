use Rattle.std.proofs.Common.{◌≡◌, ◌<◌, ◌++◌, [], ◌∷◌, Some, length, get_or, refl, sym, ◌∙◌, subst, arith}
use Rattle.std.specs.Prelude.{slice_get}
use Rattle.std.proofs.lemmas.List.{length_push}
use Rattle.std.proofs.lemmas.Option.{slice_get-get_or}
use Rattle.std.proofs.lemmas.List.Elements.{All-get_or}
use Rattle.cdcl_core.specs.Cut.{AreNeeded, AreNumbers, IsCopy}
use Rattle.cdcl_core.proofs.CutLaws.{keeps_more, keeps_all}
use Rattle.cdcl_core.proofs.cut.needed_steps.Goals as goal

pub copy-requires : goal.copy-requires
copy-requires c =
    let steps = c.args.steps.now in
    let all = steps ++ c.args.last.now ∷ [] in
    let places = c.as_slice-place-items.result.now in
    let needed = subst (AreNeeded all) (sym c.as_slice-place-items.ensures.value) c.in_ok-places.ensures in
    let low = All-get_or (λ k. k < length all) places c.loop-place.place-index 0 c.loop-place-test.true needed.within in
    omega (arith, low, length_push steps c.args.last.now)

pub loop-place-preserved : goal.loop-place-preserved
loop-place-preserved c =
    let all = c.args.steps.now ++ c.args.last.now ∷ [] in
    let places = c.as_slice-place-items.result.now in
    let i = c.loop-place.place-index in
    let needed = subst (AreNeeded all) (sym c.as_slice-place-items.ensures.value) c.in_ok-places.ensures in
    let low = All-get_or (λ k. k < length all) places i 0 c.loop-place-test.true needed.within in
    let p = get_or places i 0 in
    let s = get_or all p c.args.last.now in
    let at : slice_get all p ≡ Some s = slice_get-get_or all p c.args.last.now low in
    let numbers = c.in_ok-numbers.numbers.items in
    let numbered = subst (λ ps. AreNumbers ps numbers) (c.deref.ensures.value ∙ sym c.as_slice-place-items.ensures.value) c.in_ok-numbers.ensures in
    let copy = subst (λ ns. IsCopy ns s c.in_ok-copy.field-0) c.deref-in-loop-place.ensures.value (c.in_ok-copy.ensures s at) in
    keeps_more all places numbers i p s c.in_ok-copy.field-0 c.loop-place.kept c.push.new.self needed numbered c.loop-place-test.true refl
    at copy c.in_ok-push.ensures.ok c.loop-place.invariant

pub returns : goal.returns
returns c =
    let all = c.args.steps.now ++ c.args.last.now ∷ [] in
    let needed = subst (AreNeeded all) (sym c.as_slice-place-items.ensures.value) c.in_ok-places.ensures in
    let whole : c.loop-place.place-index ≡ length c.as_slice-place-items.result.now = omega (arith, c.loop-place-test.false, c.loop-place.auto.place-index-end) in
    keeps_all all c.as_slice-place-items.result.now c.loop-place.place-index c.loop-place.kept needed whole c.loop-place.invariant
