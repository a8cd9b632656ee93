use Rattle.std.proofs.Common.{◌≡◌, ◌<◌, ◌-◌, ◌∙◌, ℕ, sym, ap, subst, length, arith, List, Contains}
use Rattle.std.specs.Prelude.{remove}
use Rattle.inst_logic.proofs.Membership.{◌∈◌, contains_in, all_in}
use Rattle.inst_logic.specs.Clauses.{TreeClause}
use Rattle.core_min.specs.declared.verdict.Verdict.TheVariants.{Refuted}
use Rattle.core_min.specs.Cores.{ArePlaces, IsPartlyMinimal}
use Rattle.core_min.specs.Verdicts.{IsCited, IsVerdict}
use Rattle.core_min.proofs.Places.{places_without, shrinks_to_cited}
use Rattle.core_min.proofs.deletion.try_place.Goals as goal

-- what the refutation cites takes the list's place
shorter : (cs : List TreeClause) (places rest some : List ℕ) (done : ℕ) → IsPartlyMinimal cs places done → done < length places → rest ≡ remove places done → IsCited cs rest some → IsPartlyMinimal cs some done × (length some - done < length places - done)
shorter cs places rest some done partly below same cited =
    shrinks_to_cited cs places some done partly below cited.rising (λ n i. subst (λ xs. n ∈ xs) same (contains_in n rest (all_in (Contains rest) some cited.within n i))) cited.refuted

pub returns-in-Refuted-clause-partly : goal.returns-in-Refuted-clause-partly
returns-in-Refuted-clause-partly g c =
    let cs : List TreeClause = g.T.SubListTest.clauses c.args.test.now in
    let same = c.as_slice-2.ensures.value ∙ c.in_ok-rest.ensures ∙ ap (λ xs. remove xs c.args.done) c.as_slice.ensures.value in
    let cited : IsVerdict cs c.as_slice-2.result.now (Refuted c.in-Refuted.cited) = subst (IsVerdict cs c.as_slice-2.result.now) c.in-Refuted.is c.in_ok-cited.ensures.verdict in
    let below : c.args.done < length c.args.places.now.items = omega (arith, c.args.places.now.ok.0, c.requires.within) in
    subst (λ xs. IsPartlyMinimal cs xs c.args.done) (sym c.into.ensures) (shorter cs c.args.places.now.items c.as_slice-2.result.now c.in-Refuted.cited c.args.done c.requires.partly below same cited).0

pub returns-in-Refuted-clause-fewer : goal.returns-in-Refuted-clause-fewer
returns-in-Refuted-clause-fewer g c =
    let cs : List TreeClause = g.T.SubListTest.clauses c.args.test.now in
    let same = c.as_slice-2.ensures.value ∙ c.in_ok-rest.ensures ∙ ap (λ xs. remove xs c.args.done) c.as_slice.ensures.value in
    let cited : IsVerdict cs c.as_slice-2.result.now (Refuted c.in-Refuted.cited) = subst (IsVerdict cs c.as_slice-2.result.now) c.in-Refuted.is c.in_ok-cited.ensures.verdict in
    let below : c.args.done < length c.args.places.now.items = omega (arith, c.args.places.now.ok.0, c.requires.within) in
    let fewer = (shorter cs c.args.places.now.items c.as_slice-2.result.now c.in-Refuted.cited c.args.done c.requires.partly below same cited).1 in
    let long = ap length c.into.ensures in
    omega (arith, fewer, long, c.into.result.ok.0, c.args.places.now.ok.0)

pub decide-requires : goal.decide-requires
decide-requires g c =
    let cs : List TreeClause = g.T.SubListTest.clauses c.args.test.now in
    let same = c.as_slice-2.ensures.value ∙ c.in_ok-rest.ensures ∙ ap (λ xs. remove xs c.args.done) c.as_slice.ensures.value in
    let below : c.args.done < length c.args.places.now.items = omega (arith, c.args.places.now.ok.0, c.requires.within) in
    subst (ArePlaces cs) (sym same) (places_without cs c.args.places.now.items c.args.done c.requires.partly.places_of below)
