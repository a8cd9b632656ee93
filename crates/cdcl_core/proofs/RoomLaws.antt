-- A trail has no more entries than there are atoms.
use Rattle.std.proofs.Common.{◌≡◌, ◌≢◌, ℕ, ◌<◌, ◌≤◌, Bool, true, false, List, [], ◌∷◌, length, map, refl, arith, eqb}
use Rattle.std.specs.Prelude.{All, AllPairs, ◌||◌}
use Rattle.std.specs.List.{list_any}
use Rattle.std.proofs.lemmas.List.{length-map}
use Rattle.std.proofs.lemmas.List.Elements.{All-head, All-tail, All-map}
use Rattle.std.proofs.lemmas.List.Kept.{AllPairs-cons}
use Rattle.std.proofs.lemmas.Bool.{false≢true}
use Rattle.std.proofs.lemmas.Bool.Decides.{Decides-eqb, nat_tests}
use Rattle.std.proofs.lemmas.Map.Made.{IsDistinct-from_AllPairs}
use Rattle.std.proofs.lemmas.Map.Steps.{length-le_from_distinct_below}
use Rattle.prop_logic.proofs.ListLaws.{All-from_contained}
use Rattle.cdcl_trail.specs.declared.entry.Entry.{Entry}
use Rattle.cdcl_trail.specs.Trail.{Trail, IsTrail}
use Rattle.cdcl_core.proofs.EntryLaws.{pairs_head, pairs_tail}

atoms_apart : (es : List Entry) → AllPairs (λ a b. a.lit.atom ≢ b.lit.atom) es → AllPairs (λ x y. x ≢ y) (map (λ e. e.lit.atom) es)
atoms_apart [] h = λ i j d low high. absurd (omega arith)
atoms_apart (e ∷ es) h =
    AllPairs-cons (λ x y. x ≢ y) e.lit.atom (map (λ d. d.lit.atom) es)
    (All-map (λ y. e.lit.atom ≢ y) (λ d. d.lit.atom) es (All-from_contained (λ d. e.lit.atom ≢ d.lit.atom) es (λ d c. pairs_head (λ a b. a.lit.atom ≢ b.lit.atom) e es d h c)))
    (atoms_apart es (pairs_tail (λ a b. a.lit.atom ≢ b.lit.atom) e es h))

any_step : (n q x : ℕ) (xs : List ℕ) (b : Bool) → eqb q x ≡ b → x < n → (list_any (eqb q) xs ≡ true → q < n) → (b || list_any (eqb q) xs) ≡ true → q < n
any_step n q x xs true s low rest f = let same : q ≡ x = grind (arith, nat_tests) in omega arith
any_step n q x xs false s low rest f = rest f

any_below : (n q : ℕ) (xs : List ℕ) → All (λ x. x < n) xs → list_any (eqb q) xs ≡ true → q < n
any_below n q [] h e = absurd (false≢true e)
any_below n q (x ∷ xs) h e = any_step n q x xs (eqb q x) refl (All-head (λ y. y < n) x xs h) (λ f. any_below n q xs (All-tail (λ y. y < n) x xs h) f) e

pub room : (t : Trail) → IsTrail t → length t.entries ≤ t.atoms
room t v =
    let xs = map (λ e. e.lit.atom) t.entries in
    let low : All (λ x. x < t.atoms) xs = All-map (λ x. x < t.atoms) (λ e. e.lit.atom) t.entries v.atoms_below in
    let h = length-le_from_distinct_below xs t.atoms (IsDistinct-from_AllPairs Decides-eqb xs (atoms_apart t.entries v.once)) (λ q e. any_below t.atoms q xs low e) in
    omega (arith, h, length-map t.entries (λ e. e.lit.atom))
