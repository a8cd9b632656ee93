use Rattle.std.proofs.Common.{◌≡◌, ℕ, ◌∙◌, sym, ap, subst, length, List, Contains}
use Rattle.std.specs.List.{range_with_len}
use Rattle.inst_logic.proofs.Membership.{◌∈◌, contains_in, all_in}
use Rattle.inst_logic.specs.Clauses.{TreeClause}
use Rattle.core_min.specs.declared.verdict.Verdict.TheVariants.{Refuted, Satisfiable}
use Rattle.core_min.specs.Cores.{clauses_at, ArePlaces, HasSelection, IsPartlyMinimal}
use Rattle.core_min.specs.Verdicts.{IsCited, IsVerdict}
use Rattle.core_min.proofs.Places.{places_of_all, whole_satisfiable, begins_with_cited}
use Rattle.core_min.proofs.deletion.core_places.Goals as goal

-- the deletion begins with what the first refutation cites
first_cited : (cs : List TreeClause) (all some : List ℕ) → all ≡ range_with_len 1 (length cs) → IsCited cs all some → IsPartlyMinimal cs some 0
first_cited cs all some e cited = begins_with_cited cs some cited.rising (λ n i. subst (λ xs. n ∈ xs) e (contains_in n all (all_in (Contains all) some cited.within n i))) cited.refuted

pub minimal_places-requires : goal.minimal_places-requires
minimal_places-requires g c =
    let cs : List TreeClause = g.T.SubListTest.clauses c.args.test.now in
    let all = c.as_slice.ensures.value ∙ c.in_ok-all.ensures ∙ ap (range_with_len 1) (sym c.requires) in
    let cited : IsVerdict cs c.as_slice.result.now (Refuted c.in-Refuted.cited) = subst (IsVerdict cs c.as_slice.result.now) c.in-Refuted.is c.in_ok-cited.ensures.verdict in
    subst (λ (ds : List TreeClause). IsPartlyMinimal ds c.into.result.items 0) (sym c.in_ok-cited.ensures.same) (subst (λ xs. IsPartlyMinimal cs xs 0) (sym c.into.ensures) (first_cited cs c.as_slice.result.now c.in-Refuted.cited all cited))

pub returns-clause-core : goal.returns-clause-core
returns-clause-core g c =
    let cs : List TreeClause = g.T.SubListTest.clauses c.args.test.now in
    let all = c.as_slice.ensures.value ∙ c.in_ok-all.ensures ∙ ap (range_with_len 1) (sym c.requires) in
    let verdict : IsVerdict cs c.as_slice.result.now Satisfiable = subst (IsVerdict cs c.as_slice.result.now) c.in-Satisfiable.is c.in_ok-cited.ensures.verdict in
    whole_satisfiable cs (subst (λ xs. HasSelection (clauses_at cs xs)) all verdict)

pub decide-requires : goal.decide-requires
decide-requires g c =
    let cs : List TreeClause = g.T.SubListTest.clauses c.args.test.now in
    let all = c.as_slice.ensures.value ∙ c.in_ok-all.ensures ∙ ap (range_with_len 1) (sym c.requires) in
    subst (ArePlaces cs) (sym all) (places_of_all cs)
