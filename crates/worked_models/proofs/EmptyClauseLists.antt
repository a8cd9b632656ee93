-- Lists of empty clauses: refuted where there is one, else satisfiable.
use Rattle.std.proofs.Common.{◌≡◌, ℕ, List, zero, suc, ◌<◌, ◌≤◌, [], ◌∷◌, inl, inr, refl, sym, ap, ◌∙◌, subst as transport, length, Some, arith, Any, Contains}
use Rattle.std.specs.Prelude.{replicate}
use Rattle.std.proofs.lemmas.List.{get_or-replicate, length-replicate}
use Rattle.std.proofs.lemmas.Option.{slice_get-get_or}
use Rattle.std.specs.List.{cons_option}
use Rattle.inst_logic.specs.Tree.{var}
use Rattle.inst_logic.specs.Clauses.{TreeClause, IsGround, IsInstance}
use Rattle.inst_logic.specs.Truth.{IsTrueClause, IsTrueLiteral}
use Rattle.inst_logic.proofs.Membership.{◌∈◌, in_all, all_in, in_any, any_in, contains_in}
use Rattle.inst_calculus.specs.Axioms.{with_axioms}
use Rattle.inst_calculus.specs.Models.{Makes}
use Rattle.core_min.specs.Cores.{clauses_at, ArePlaces, HasRefutation, HasSelection}
use Rattle.core_min.specs.Verdicts.{IsCited}

refuted : HasRefutation ([] ∷ [])
refuted = record {
  grounds = [] ∷ [];
  instances = in_all (λ g. IsGround g × Any (IsInstance g) (with_axioms ([] ∷ []))) ([] ∷ []) each;
  refuted = λ v. in_any (λ c. ¬ IsTrueClause (Contains v) c) [] ([] ∷ []) (inl refl) (λ t. let (l, i, h) = any_in (IsTrueLiteral (Contains v)) [] t in absurd i);
}
  where
    itself : IsInstance [] []
    itself = (var, in_all (Contains []) [] (λ l i. absurd i), in_all (Contains []) [] (λ l i. absurd i))

    each : (g : TreeClause) → g ∈ ([] ∷ []) → IsGround g × Any (IsInstance g) (with_axioms ([] ∷ []))
    each g (inl e) = transport (λ (c : TreeClause). IsGround c × Any (IsInstance c) (with_axioms ([] ∷ []))) (sym e) (refl, in_any (IsInstance []) [] ([] ∷ []) (inl refl) itself)
    each g (inr i) = absurd i

-- the clause at a place
pub first_clause : (n p : ℕ) → 0 < p → p ≤ n → clauses_at (replicate n []) (p ∷ []) ≡ [] ∷ []
first_clause n zero h l = absurd (omega arith)
first_clause n (suc i) h l =
    let small : i < n = omega (arith, l) in
    let long : length (replicate {A = TreeClause} n []) ≡ n = length-replicate n [] in
    let below : i < length (replicate {A = TreeClause} n []) = transport (λ k. i < k) (sym long) small in
    ap (λ o. cons_option o []) (slice_get-get_or (replicate {A = TreeClause} n []) i [] below ∙ ap Some (get_or-replicate n i [] [] small))

pub refuted_at : (n p : ℕ) → 0 < p → p ≤ n → HasRefutation (clauses_at (replicate n []) (p ∷ []))
refuted_at n p h l = transport HasRefutation (sym (first_clause n p h l)) refuted

pub satisfiable_nowhere : HasSelection []
satisfiable_nowhere = record { members = []; makes = in_all (Makes []) [] (λ c i. absurd i) }

-- the first place is cited
pub cited_first : (n p : ℕ) (places : List ℕ) → ArePlaces (replicate n []) places → Contains places p → IsCited (replicate n []) places (p ∷ [])
cited_first n p places given there =
    let (low, high) = all_in (λ k. (0 < k) × (k ≤ length (replicate {A = TreeClause} n []))) places given.within p (contains_in p places there) in
    let long : length (replicate {A = TreeClause} n []) ≡ n = length-replicate n [] in
    let within : p ≤ n = transport (λ k. p ≤ k) long high in
    record {
      rising = λ k l. absurd (omega (arith, l));
      within = in_all (Contains places) (p ∷ []) (cited places p there);
      refuted = refuted_at n p low within;
    }
  where
    cited : (places : List ℕ) (p : ℕ) → Contains places p → (q : ℕ) → q ∈ (p ∷ []) → Contains places q
    cited places p there q (inl e) = transport (Contains places) (sym e) there
    cited places p there q (inr i) = absurd i
