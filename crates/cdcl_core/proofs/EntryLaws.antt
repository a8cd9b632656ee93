-- Entries of a trail by their places and atoms.
use Rattle.std.proofs.Common.{◌≡◌, ◌≢◌, ℕ, suc, zero, ◌+◌, ◌<◌, Bool, true, false, not, cond, ◌⊎◌, inl, inr, List, [], ◌∷◌, ◌++◌, length, take, get_or, Some, refl, sym, ap, ◌∙◌, subst, arith, eq-eqb}
use Rattle.std.specs.Prelude.{AllPairs, Contains, slice_get, ◌==◌}
use Rattle.std.proofs.lemmas.List.{take_more}
use Rattle.std.proofs.lemmas.List.Elements.{All-contains, All-map, Contains-push, Contains-push_cases}
use Rattle.std.proofs.lemmas.Option.{same_Some, slice_get_within, slice_get-get_or}
use Rattle.std.proofs.lemmas.Bool.{cases_eq}
use Rattle.std.proofs.lemmas.Bool.Decides.{nat_tests}
use Rattle.inst_logic.specs.declared.signed.Signed.{Signed}
use Rattle.inst_logic.specs.Signed.{complement}
use Rattle.prop_logic.proofs.ListLaws.{All-from_contained, slice_get-Contains, slice_get_take}
use Rattle.prop_logic.proofs.SearchLaws.{complement_twice}
use Rattle.cdcl_trail.specs.declared.entry.Entry.{Entry}
use Rattle.cdcl_trail.specs.Trail.{Trail, IsTrail, level_of, reason_of, value_of, literals_of}
use Rattle.cdcl_trail.specs.Propagation.{IsFalseIn}

-- the entry at a place
pub entry_at : (entries : List Entry) (i : ℕ) (d : Signed ℕ) → i < length entries → (e : Entry) × (slice_get entries i ≡ Some e) × (get_or (literals_of entries) i d ≡ e.lit)
entry_at [] i d h = absurd (omega arith)
entry_at (x ∷ xs) zero d h = (x, refl, refl)
entry_at (x ∷ xs) (suc i) d h = entry_at xs i d (omega arith)

-- pairs of a list
pub pairs_tail : {X : Type 0} (R : X → X → Type 0) (x : X) (xs : List X) → AllPairs R (x ∷ xs) → AllPairs R xs
pairs_tail R x xs h = λ i j d low high. h (suc i) (suc j) d (omega arith) (omega arith)

pub pairs_head : {X : Type 0} (R : X → X → Type 0) (x : X) (xs : List X) (y : X) → AllPairs R (x ∷ xs) → Contains xs y → R x y
pairs_head R x xs y h c = subst (R x) c.2 (h 0 (suc c.0) y (omega arith) (omega (arith, c.1)))

pub pair_at : {X : Type 0} (R : X → X → Type 0) (xs : List X) (i j : ℕ) (x y : X) → AllPairs R xs → i < j → slice_get xs i ≡ Some x → slice_get xs j ≡ Some y → R x y
pair_at R xs i j x y h low at after =
    let inside : j < length xs = slice_get_within xs j y after in
    let ex : get_or xs i x ≡ x = same_Some (get_or xs i x) x (sym (slice_get-get_or xs i x (slice_get_within xs i x at)) ∙ at) in
    let ey : get_or xs j x ≡ y = same_Some (get_or xs j x) y (sym (slice_get-get_or xs j x inside) ∙ after) in
    subst (λ a. R a y) ex (subst (R (get_or xs i x)) ey (h i j x low inside))

pub pair_before : {X : Type 0} (R : X → X → Type 0) (xs : List X) (i : ℕ) (x y : X) → AllPairs R xs → slice_get xs i ≡ Some y → Contains (take i xs) x → R x y
pair_before R xs i x y h at c =
    let k = slice_get-Contains (take i xs) x c in
    let g = slice_get_take xs i k.0 x k.1 in
    pair_at R xs k.0 i x y h g.1 g.0 at

pub either_less : (i j : ℕ) → (i ≡ j → ⊥) → (i < j) ⊎ (j < i)
either_less zero zero n = absurd (n refl)
either_less zero (suc j) n = inl (omega arith)
either_less (suc i) zero n = inr (omega arith)
either_less (suc i) (suc j) n = elim (either_less i j (λ e. n (ap suc e))) [ inl h ↦ inl (omega arith) | inr h ↦ inr (omega arith) ]

pub pair_any : {X : Type 0} (R : X → X → Type 0) (xs : List X) (x y : X) → AllPairs R xs → Contains xs x → Contains xs y → (x ≡ y) ⊎ (R x y ⊎ R y x)
pair_any R xs x y h cx cy =
    let i = slice_get-Contains xs x cx in
    let j = slice_get-Contains xs y cy in
    elim (cases_eq i.0 j.0) [
      | inl same ↦ inl (same_Some x y (sym i.1 ∙ ap (slice_get xs) same ∙ j.1))
      | inr other ↦ inr (by_order i.0 j.0 i.1 j.1 other)
    ]
  where
    by_order : (i j : ℕ) → slice_get xs i ≡ Some x → slice_get xs j ≡ Some y → (i ≡ j → ⊥) → R x y ⊎ R y x
    by_order i j ei ej n =
        let apart : (i < j) ⊎ (j < i) = either_less i j n in
        elim apart [ inl low ↦ inl (pair_at R xs i j x y h low ei ej) | inr high ↦ inr (pair_at R xs j i y x h high ej ei) ]

-- one item more
pub take_item : {X : Type 0} (xs : List X) (i : ℕ) (x : X) → slice_get xs i ≡ Some x → take (i + 1) xs ≡ take i xs ++ x ∷ []
take_item xs i x at =
    let inside : i < length xs = slice_get_within xs i x at in
    let is : get_or xs i x ≡ x = same_Some (get_or xs i x) x (sym (slice_get-get_or xs i x inside) ∙ at) in
    take_more xs i x inside ∙ ap (λ y. take i xs ++ y ∷ []) is

pub before_or_here : {X : Type 0} (xs : List X) (i : ℕ) (x y : X) → slice_get xs i ≡ Some x → Contains (take (i + 1) xs) y → Contains (take i xs) y ⊎ (x ≡ y)
before_or_here xs i x y at c = Contains-push_cases (take i xs) x y (subst (λ l. Contains l y) (take_item xs i x at) c)

pub here_too : {X : Type 0} (xs : List X) (i : ℕ) (x : X) → slice_get xs i ≡ Some x → Contains (take (i + 1) xs) x
here_too xs i x at = subst (λ l. Contains l x) (sym (take_item xs i x at)) (Contains-push (take i xs) x)

-- a literal of entries is that of an entry
pub of_literals : (entries : List Entry) (l : Signed ℕ) → Contains (literals_of entries) l → (e : Entry) × Contains entries e × (l ≡ e.lit)
of_literals entries l c =
    All-contains (λ x. (e : Entry) × Contains entries e × (x ≡ e.lit)) (literals_of entries) l
    (All-map (λ x. (e : Entry) × Contains entries e × (x ≡ e.lit)) (λ e. e.lit) entries
    (All-from_contained (λ e. (d : Entry) × Contains entries d × (e.lit ≡ d.lit)) entries (λ e k. (e, k, refl)))) c

pub to_literals : (entries : List Entry) (e : Entry) → Contains entries e → Contains (literals_of entries) e.lit
to_literals [] e c = absurd (omega (arith, c.1))
to_literals (x ∷ xs) e (zero, h, s) = (0, omega arith, ap (λ y. y.lit) s)
to_literals (x ∷ xs) e (suc k, h, s) = let c = to_literals xs e (k, omega arith, s) in (suc c.0, omega (arith, c.1), c.2)

pub of_false : (entries : List Entry) (l : Signed ℕ) → IsFalseIn entries l → (e : Entry) × Contains entries e × (l ≡ complement e.lit)
of_false entries l c = let f = of_literals entries (complement l) c in (f.0, f.1, sym (complement_twice l) ∙ ap complement f.2)

pub to_false : (entries : List Entry) (e : Entry) (l : Signed ℕ) → Contains entries e → l ≡ complement e.lit → IsFalseIn entries l
to_false entries e l c s = subst (Contains (literals_of entries)) (sym (complement_twice e.lit) ∙ ap complement (sym s)) (to_literals entries e c)

-- no entry is for the complement of another
pub consistent : (t : Trail) (e d : Entry) → IsTrail t → Contains t.entries e → Contains t.entries d → e.lit ≡ complement d.lit → ⊥
consistent t e d v ce cd same =
    elim (pair_any (λ a b. a.lit.atom ≢ b.lit.atom) t.entries e d v.once ce cd) [
      | inl is ↦ differs d.lit.positive (ap (λ x. x.positive) (ap (λ x. x.lit) (sym is) ∙ same))
      | inr other ↦ elim other [
        | inl n ↦ n (ap (λ x. x.atom) same)
        | inr n ↦ n (ap (λ x. x.atom) (sym same))
      ]
    ]
  where
    differs : (b : Bool) → b ≡ not b → ⊥
    differs true e = cc
    differs false e = cc

-- one entry for an atom
pub same_entry : (t : Trail) (e d : Entry) → IsTrail t → Contains t.entries e → Contains t.entries d → e.lit.atom ≡ d.lit.atom → e ≡ d
same_entry t e d v ce cd same =
    elim (pair_any (λ a b. a.lit.atom ≢ b.lit.atom) t.entries e d v.once ce cd) [
      | inl is ↦ is
      | inr other ↦ elim other [ inl n ↦ absurd (n same) | inr n ↦ absurd (n (sym same)) ]
    ]

pub same_test : (a b : ℕ) → a ≡ b → (a == b) ≡ true
same_test a b e = eq-eqb a b e

pub other_test : (a b : ℕ) → (a ≡ b → ⊥) → (a == b) ≡ false
other_test a b n = grind (arith, nat_tests)

-- what the entries say of the atom of an entry
found : {Y : Type 0} (here : Entry → Y) (f : List Entry → Y) (entries : List Entry) (e : Entry) (a : ℕ) → ((x : Entry) (xs : List Entry) → f (x ∷ xs) ≡ cond (x.lit.atom == a) (here x) (f xs)) → AllPairs (λ x y. x.lit.atom ≢ y.lit.atom) entries → Contains entries e → e.lit.atom ≡ a → f entries ≡ here e
found here f [] e a step once c same = absurd (omega (arith, c.1))
found here f (x ∷ xs) e a step once (zero, h, s) same =
    step x xs ∙ ap (λ b. cond b (here x) (f xs)) (same_test x.lit.atom a (ap (λ y. y.lit.atom) s ∙ same)) ∙ ap here s
found here f (x ∷ xs) e a step once (suc k, h, s) same =
    let inside : Contains xs e = (k, omega arith, s) in
    let n : x.lit.atom ≡ a → ⊥ = λ q. pairs_head (λ y z. y.lit.atom ≢ z.lit.atom) x xs e once inside (q ∙ sym same) in
    step x xs ∙ ap (λ b. cond b (here x) (f xs)) (other_test x.lit.atom a n) ∙ found here f xs e a step (pairs_tail (λ y z. y.lit.atom ≢ z.lit.atom) x xs once) inside same

pub level_found : (t : Trail) (e : Entry) (a : ℕ) → IsTrail t → Contains t.entries e → e.lit.atom ≡ a → level_of t.entries a ≡ Some e.level
level_found t e a v c same = found (λ x. Some x.level) (λ es. level_of es a) t.entries e a (λ x xs. refl) v.once c same

pub reason_found : (t : Trail) (e : Entry) (a : ℕ) → IsTrail t → Contains t.entries e → e.lit.atom ≡ a → reason_of t.entries a ≡ e.reason
reason_found t e a v c same = found (λ x. x.reason) (λ es. reason_of es a) t.entries e a (λ x xs. refl) v.once c same

pub value_found : (t : Trail) (e : Entry) (l : Signed ℕ) → IsTrail t → Contains t.entries e → e.lit.atom ≡ l.atom → value_of t.entries l ≡ Some (cond e.lit.positive l.positive (not l.positive))
value_found t e l v c same = found (λ x. Some (cond x.lit.positive l.positive (not l.positive))) (λ es. value_of es l) t.entries e l.atom (λ x xs. refl) v.once c same
