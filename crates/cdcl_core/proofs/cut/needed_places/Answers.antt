use Rattle.std.proofs.Common.{◌≡◌, ◌-◌, ◌++◌, [], ◌∷◌, Some, drop, get_or, length, reverse, take, ap, ◌∙◌, subst, sym, arith}
use Rattle.std.specs.Prelude.{All, slice_get}
use Rattle.std.proofs.lemmas.List.{length_push, reverse-append, take-append-le, take_all}
use Rattle.std.proofs.lemmas.Option.{slice_get-get_or}
use Rattle.cdcl_core.specs.Cut.{CitesOnly, IsMarked}
use Rattle.cdcl_core.proofs.NeedLaws.{IsReached, reached_more, reached_all}
use Rattle.cdcl_core.proofs.cut.needed_places.Goals as goal

pub loop-place-preserved-then-index : goal.loop-place-preserved-then-index
loop-place-preserved-then-index c =
    let all = c.args.steps.now ++ c.args.last.now ∷ [] in
    let old = c.loop-place.needed.items in
    let new = c.mark_all.new.needed in
    let n = c.loop-place.needed.len in
    let i = c.loop-place.place in
    let size : n ≡ length new = omega (arith, ap length c.deref_mut.ensures.value, c.loop-place.needed.ok.0, c.mark_all.auto.needed) in
    let same : take n (new ++ drop (length new) old) ≡ new = take-append-le n new (drop (length new) old) (omega arith) ∙ take_all n new (omega arith) in
    let is : reverse c.push.new.self.items ≡ (i - 1) ∷ reverse c.loop-place.places.items = ap reverse c.in_ok-push.ensures.items ∙ reverse-append c.loop-place.places.items ((i - 1) ∷ []) in
    let s = get_or all (i - 1) c.args.last.now in
    let at : slice_get all (i - 1) ≡ Some s = slice_get-get_or all (i - 1) c.args.last.now (omega (arith, length_push c.args.steps.now c.args.last.now, c.loop-place.auto.place, c.loop-place-test.true, c.len-place.ensures, c.in_ok-needed.ensures.len, c.requires)) in
    let cited = subst (All (CitesOnly (IsMarked new) (i - 1))) (c.hints_at.ensures s at) c.mark_all.ensures.cited in
    let value = c.deref_mut.ensures.value in
    record {
      size = ap length same ∙ omega (arith, size, c.loop-place.invariant.size, c.loop-place.needed.ok.0);
      reached = subst (λ ms. IsReached all ms (i - 1) (reverse c.push.new.self.items)) (sym same)
          (reached_more all old new i (i - 1) (reverse c.loop-place.places.items) (reverse c.push.new.self.items) s (omega arith) is at cited
          (λ k m. c.mark_all.ensures.kept k (subst (λ ms. IsMarked ms k) (sym value) m)) (λ k past m. subst (λ ms. IsMarked ms k) value (c.mark_all.ensures.above k past m)) c.loop-place.invariant.reached);
    }

pub returns : goal.returns
returns c =
    let none_left : c.loop-place.place ≡ 0 = omega (arith, c.loop-place-test.false) in
    reached_all (c.args.steps.now ++ c.args.last.now ∷ []) c.loop-place.needed.items c.loop-place.place (reverse c.loop-place.places.items) c.reverse.new.self.items none_left c.reverse.ensures.items c.loop-place.invariant.reached
