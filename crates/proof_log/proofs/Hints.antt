-- What is left of the hints of a step, as a loop goes over them.
use Rattle.std.proofs.Common.{◌≡◌, ℕ, suc, zero, ◌+◌, ◌-◌, ◌<◌, ◌≤◌, ◌⊎◌, inl, inr, List, [], ◌∷◌, ◌++◌, length, drop, map, refl, Option, Some, None, get_or, sym, ap, ◌∙◌, subst, arith, ◌↔◌}
use Rattle.std.specs.Prelude.{All, Contains}
use Rattle.std.proofs.lemmas.List.{drop_more, drop_all, length-drop, length-map}
use Rattle.std.proofs.lemmas.List.Elements.{All-contains, All-map}
use Rattle.inst_logic.specs.declared.signed.Signed.{Signed}
use Rattle.inst_logic.specs.Signed.{complement}
use Rattle.inst_logic.specs.Derivations.{IsOnlyOutside, IsShown, at_number}
use Rattle.inst_logic.proofs.ShownLaws.{All-slice_get}
use Rattle.prop_logic.specs.declared.literal.Hint.{Hint}
use Rattle.prop_logic.specs.declared.literal.Hint.TheVariants.{Added, Step as Earlier}
use Rattle.prop_logic.specs.declared.literal.Step.{Step}
use Rattle.prop_logic.specs.Literal.{cited, AtomsBelow, AllAtomsBelow, StepsBelow}
use Rattle.prop_logic.specs.Analysis.{ClosesAll}
use Rattle.inst_logic.proofs.Items.{at_number_in}

-- there is only one literal outside
same_outside : (F clause : List (Signed ℕ)) (x y : Signed ℕ) → IsOnlyOutside F clause x → IsOnlyOutside F clause y → y ≡ x
same_outside F clause x y a b =
    elim (All-contains (λ m. Contains F m ⊎ (m ≡ x)) clause y a.others b.here) [ inl inside ↦ absurd (b.outside inside) | inr same ↦ same ]

-- what is left at one more hint, by the clause that it cites
pub left_more : (F clause : List (Signed ℕ)) (x : Signed ℕ) (o : Option (List (Signed ℕ))) (rest : List (Option (List (Signed ℕ)))) → o ≡ Some clause → 0 < length rest → IsOnlyOutside F clause x
    → ClosesAll F (o ∷ rest) ↔ ClosesAll (F ++ complement x ∷ []) rest
left_more F clause x None rest e h one = absurd cc
left_more F clause x (Some other) [] e h one = absurd (omega arith)
left_more F clause x (Some other) (h ∷ rest) e k one =
    let same : other ≡ clause = cc in (
      λ c. subst (λ y. ClosesAll (F ++ complement y ∷ []) (h ∷ rest)) (same_outside F clause x c.0 one (subst (λ d. IsOnlyOutside F d c.0) same c.1)) c.2,
      λ c. (x, subst (λ d. IsOnlyOutside F d x) (sym same) one, c),
    )

pub left_last : (F clause : List (Signed ℕ)) (o : Option (List (Signed ℕ))) (rest : List (Option (List (Signed ℕ)))) → o ≡ Some clause → length rest ≡ 0 → ClosesAll F (o ∷ rest) ↔ All (Contains F) clause
left_last F clause None rest e h = absurd cc
left_last F clause (Some other) (x ∷ rest) e h = absurd (omega arith)
left_last F clause (Some other) [] e h =
    let same : other ≡ clause = cc in
    (λ c. subst (λ d. All (Contains F) d) same c, λ c. subst (λ d. All (Contains F) d) (sym same) c)

pub left_unnamed : (F : List (Signed ℕ)) (o : Option (List (Signed ℕ))) (rest : List (Option (List (Signed ℕ)))) → o ≡ None → ClosesAll F (o ∷ rest) → ⊥
left_unnamed F None [] e c = c
left_unnamed F None (h ∷ rest) e c = c
left_unnamed F (Some clause) rest e c = cc

pub left_stuck : (F clause : List (Signed ℕ)) (o : Option (List (Signed ℕ))) (rest : List (Option (List (Signed ℕ)))) → o ≡ Some clause → 0 < length rest → ((l : Signed ℕ) → IsOnlyOutside F clause l → ⊥) → ClosesAll F (o ∷ rest) → ⊥
left_stuck F clause None rest e h n c = cc
left_stuck F clause (Some other) [] e h n c = omega arith
left_stuck F clause (Some other) (x ∷ rest) e h n c =
    let same : other ≡ clause = cc in
    n c.0 (subst (λ d. IsOnlyOutside F d c.0) same c.1)

-- the hints from place i on
pub left_from : (name : Hint → Option (List (Signed ℕ))) (hints : List Hint) (i : ℕ) (d : Hint) → i < length hints → map name (drop i hints) ≡ name (get_or hints i d) ∷ map name (drop (i + 1) hints)
left_from name hints i d k = ap (map name) (drop_more hints i d k)

pub left_count : (name : Hint → Option (List (Signed ℕ))) (hints : List Hint) (i : ℕ) → length (map name (drop i hints)) ≡ length hints - i
left_count name hints i = length-map (drop i hints) name ∙ length-drop i hints

pub left_none : (name : Hint → Option (List (Signed ℕ))) (F : List (Signed ℕ)) (hints : List Hint) (i : ℕ) → length hints ≤ i → ClosesAll F (map name (drop i hints)) → ⊥
left_none name F hints i k c = subst (λ xs. ClosesAll F (map name xs)) (drop_all i hints k) c

-- the clause of an earlier step, by its number
pub clause_in : (earlier : List Step) (n : ℕ) (d : Step) → 0 < n → n ≤ length earlier → at_number (map (λ s. s.clause) earlier) n ≡ Some (get_or earlier (n - 1) d).clause
clause_in earlier n d h k =
    at_number_in (map (λ s. s.clause) earlier) n d.clause h (omega (arith, length-map earlier (λ s. s.clause))) ∙ ap Some (get_clause earlier (n - 1))
  where
    get_clause : (steps : List Step) (i : ℕ) → get_or (map (λ s. s.clause) steps) i d.clause ≡ (get_or steps i d).clause
    get_clause [] i = refl
    get_clause (s ∷ steps) zero = refl
    get_clause (s ∷ steps) (suc i) = get_clause steps i

at_number_below : (n : ℕ) (clauses : List (List (Signed ℕ))) → AllAtomsBelow n clauses → (k : ℕ) (c : List (Signed ℕ)) → at_number clauses k ≡ Some c → AtomsBelow n c
at_number_below n clauses a zero c e = absurd cc
at_number_below n clauses a (suc k) c e = All-slice_get (AtomsBelow n) clauses a k c e

-- the atoms of what a hint cites
pub cited_below : (n : ℕ) (given : List (List (Signed ℕ))) (earlier : List Step) → AllAtomsBelow n given → StepsBelow n earlier → (h : Hint) (c : List (Signed ℕ)) → cited given earlier h ≡ Some c → AtomsBelow n c
cited_below n given earlier a b (Added k) c e = at_number_below n given a k c e
cited_below n given earlier a b (Earlier k) c e = at_number_below n (map (λ s. s.clause) earlier) (All-map (AtomsBelow n) (λ s. s.clause) earlier b) k c e

-- a step with hints is shown where they lead on
pub shown_by_hints : (clause : List (Signed ℕ)) (hints : List (Option (List (Signed ℕ)))) → 0 < length hints → IsShown clause hints ↔ ClosesAll clause hints
shown_by_hints clause [] h = absurd (omega arith)
shown_by_hints clause (x ∷ hints) h = (λ k. k, λ k. k)
