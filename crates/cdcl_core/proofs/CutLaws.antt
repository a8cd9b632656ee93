-- Derivations cut to the steps at some places.
use Rattle.std.proofs.Common.{◌≡◌, ◌≢◌, ℕ, suc, zero, ◌+◌, ◌-◌, ◌<◌, ◌≤◌, inl, inr, List, [], ◌∷◌, ◌++◌, length, map, take, get_or, Option, Some, None, refl, sym, ap, ◌∙◌, subst, arith}
use Rattle.std.specs.Prelude.{All, Contains, slice_get}
use Rattle.std.specs.List.{AllZip}
use Rattle.std.specs.Option.{option_map}
use Rattle.std.proofs.lemmas.List.{length-map, length_push}
use Rattle.std.proofs.lemmas.List.Elements.{All-head, All-tail, All-contains, All-weaker, All-get_or, Contains-get_or, all_zip_more}
use Rattle.std.proofs.lemmas.Option.{same_Some, none-some, slice_get_within, slice_get-get_or, slice_get-map, get_or_from_slice_get}
use Rattle.std.proofs.lemmas.Bool.{cases_eq, cases_lt}
use Rattle.inst_logic.specs.declared.signed.Signed.{Signed}
use Rattle.inst_logic.specs.Signed.{complement}
use Rattle.inst_logic.specs.Derivations.{Closes, IsShown}
use Rattle.prop_logic.specs.declared.literal.Hint.{Hint}
use Rattle.prop_logic.specs.declared.literal.Hint.TheVariants.{Added, Step as Earlier}
use Rattle.prop_logic.specs.declared.literal.Step.{Step}
use Rattle.prop_logic.specs.Literal.{cited, AtomsBelow}
use Rattle.prop_logic.specs.Solving.{EndsWith}
use Rattle.prop_logic.specs.Search.{AreGood}
use Rattle.prop_logic.specs.Cut.{IsCutOf}
use Rattle.prop_logic.proofs.ListLaws.{slice_get_take, slice_get-Contains, All-slice_get}
use Rattle.prop_logic.proofs.SearchLaws.{good_push, last_cited, cited_later, ends_with_push}
use Rattle.cdcl_core.specs.Cut.{CitesOnly, Rises, AreNeeded, AreNumbers, IsRenamed, IsCopy}

pub rises_at : (xs : List ℕ) (i j : ℕ) → Rises xs → i < j → j < length xs → get_or xs i 0 < get_or xs j 0
rises_at [] i j r low high = absurd (omega arith)
rises_at (x ∷ xs) zero zero r low high = absurd (omega arith)
rises_at (x ∷ xs) (suc i) zero r low high = absurd (omega arith)
rises_at (x ∷ xs) zero (suc j) r low high = All-get_or (λ y. x < y) xs j 0 (omega arith) r.0
rises_at (x ∷ xs) (suc i) (suc j) r low high = rises_at xs i j r.1 (omega arith) (omega arith)

rises_to : (xs : List ℕ) (i j : ℕ) → Rises xs → i ≤ j → j < length xs → get_or xs i 0 ≤ get_or xs j 0
rises_to xs i j r low high =
    elim (cases_eq i j) [
      | inl same ↦ subst (λ k. get_or xs i 0 ≤ get_or xs k 0) same (omega arith)
      | inr other ↦ let less = rises_at xs i j r (omega (arith, other)) high in omega arith
    ]

-- the place of a lower number is earlier
pub earlier_at : (xs : List ℕ) (i j : ℕ) → Rises xs → i < length xs → j < length xs → get_or xs i 0 < get_or xs j 0 → i < j
earlier_at xs i j r within inside low =
    elim (cases_lt i j) [
      | inl less ↦ less
      | inr more ↦ let up = rises_to xs j i r more within in absurd (omega arith)
    ]

-- a clause stays shown where the clauses that its hints cite are cited by others
abbrev Stays : (f g : Hint → Option (List (Signed ℕ))) → Hint → Hint → Type 0
Stays f g h k = (c : List (Signed ℕ)) → f h ≡ Some c → g k ≡ Some c

closes_stay : (f g : Hint → Option (List (Signed ℕ))) (hints others : List Hint) (F : List (Signed ℕ)) (h k : Hint) (o : Option (List (Signed ℕ))) → f h ≡ o → Stays f g h k → AllZip (Stays f g) hints others
    → Closes F o (map f hints) → Closes F (g k) (map g others)
closes_stay f g [] (y ∷ others) F h k o e stays all c = absurd all
closes_stay f g (x ∷ hints) [] F h k o e stays all c = absurd all
closes_stay f g [] [] F h k None e stays all c = absurd c
closes_stay f g (x ∷ hints) (y ∷ others) F h k None e stays all c = absurd c
closes_stay f g [] [] F h k (Some clause) e stays all c = subst (λ o. Closes F o []) (sym (stays clause e)) c
closes_stay f g (x ∷ hints) (y ∷ others) F h k (Some clause) e stays all c =
    subst (λ o. Closes F o (map g (y ∷ others))) (sym (stays clause e))
    (c.0, c.1, closes_stay f g hints others (F ++ complement c.0 ∷ []) x y (f x) refl all.0 all.1 c.2)

shown_stay : (f g : Hint → Option (List (Signed ℕ))) (clause : List (Signed ℕ)) (hints others : List Hint) → AllZip (Stays f g) hints others → IsShown clause (map f hints) → IsShown clause (map g others)
shown_stay f g clause [] [] all s = s
shown_stay f g clause [] (y ∷ others) all s = absurd all
shown_stay f g clause (x ∷ hints) [] all s = absurd all
shown_stay f g clause (x ∷ hints) (y ∷ others) all s = closes_stay f g hints others clause x y (f x) refl all.0 all.1 s

hinted_stay : (R : Hint → Hint → Type 0) (hints others : List Hint) → AllZip R hints others → (hints ≡ [] → ⊥) → others ≡ [] → ⊥
hinted_stay R [] others all some e = some refl
hinted_stay R (x ∷ hints) [] all some e = all
hinted_stay R (x ∷ hints) (y ∷ others) all some e = cc

zip_stay : (P : Hint → Type 0) (R Q : Hint → Hint → Type 0) (hints others : List Hint) → ((h k : Hint) → P h → R h k → Q h k) → All P hints → AllZip R hints others → AllZip Q hints others
zip_stay P R Q [] [] f all z = tt
zip_stay P R Q [] (y ∷ others) f all z = absurd z
zip_stay P R Q (x ∷ hints) [] f all z = absurd z
zip_stay P R Q (x ∷ hints) (y ∷ others) f all z = (f x y (All-head P x hints all) z.0, zip_stay P R Q hints others f (All-tail P x hints all) z.1)

get_or_same : {X : Type 0} (xs : List X) (i : ℕ) (d e : X) → i < length xs → get_or xs i d ≡ get_or xs i e
get_or_same [] i d e inside = absurd (omega arith)
get_or_same (x ∷ xs) zero d e inside = refl
get_or_same (x ∷ xs) (suc i) d e inside = get_or_same xs i d e (omega arith)

pub zip_more : (R : Hint → Hint → Type 0) (hints others : List Hint) (i : ℕ) (d k : Hint) → i < length hints → AllZip R (take i hints) others → R (get_or hints i d) k → AllZip R (take (i + 1) hints) (others ++ k ∷ [])
zip_more R hints others i d k inside all r =
    let x = get_or hints i d in
    all_zip_more R hints others i x k inside (get_or_same hints i d x inside) all r

-- the steps at the first places are kept, and each has the number of its place among these
pub record KeepsFirst (steps : List Step) (places : List ℕ) (i : ℕ) (kept : List Step) : Type 0 where
  pub size : length kept ≡ i
  pub named : (j : ℕ) (s : Step) → j < i → slice_get steps (get_or places j 0) ≡ Some s → (clauses : List (List (Signed ℕ))) → cited clauses kept (Earlier (suc j)) ≡ Some s.clause
  pub good : (clauses : List (List (Signed ℕ))) (n : ℕ) → AreGood clauses n steps → AreGood clauses n kept
  pub last : (s : Step) → 0 < i → slice_get steps (get_or places (i - 1) 0) ≡ Some s → EndsWith kept s.clause

renamed_cited : (clauses : List (List (Signed ℕ))) (steps : List Step) (places numbers : List ℕ) (i p : ℕ) (kept : List Step) (h k : Hint) → Rises places → AreNumbers places numbers → i < length places → p ≡ get_or places i 0
    → CitesOnly (Contains places) p h → IsRenamed numbers h k → KeepsFirst steps places i kept → Stays (cited clauses (take p steps)) (cited clauses kept) h k
renamed_cited clauses steps places numbers i p kept (Added n) k r numbered inside at f is a c e = ap (cited clauses kept) is ∙ e
renamed_cited clauses steps places numbers i p kept (Earlier zero) k r numbered inside at f is a c e = absurd (none-some c e)
renamed_cited clauses steps places numbers i p kept (Earlier (suc m)) k r numbered inside at f is a c e =
    let within : m < length (take p steps) = let w = slice_get_within (map (λ s. s.clause) (take p steps)) m c e in omega (arith, w, length-map (take p steps) (λ s. s.clause)) in
    let d : Step = record { clause = c; hints = [] } in
    let s : Step = get_or (take p steps) m d in
    let read = slice_get-get_or (take p steps) m d within in
    let old = slice_get_take steps p m s read in
    let same : s.clause ≡ c = same_Some s.clause c (sym (slice_get-map (λ x. x.clause) (take p steps) m ∙ ap (option_map (λ x. x.clause)) read) ∙ e) in
    let new = slice_get-Contains places m (f old.1) in
    let there : new.0 < length places = slice_get_within places new.0 m new.1 in
    let here : get_or places new.0 0 ≡ m = get_or_from_slice_get places new.0 m 0 new.1 in
    let first : new.0 < i = earlier_at places new.0 i r there inside (omega (arith, here, at, old.1)) in
    let named : k ≡ Earlier (suc new.0) = is (suc new.0) (ap (slice_get numbers) (sym here) ∙ numbered new.0 there) in
    ap (cited clauses kept) named ∙ a.named new.0 s first (ap (slice_get steps) here ∙ old.0) clauses ∙ ap Some same

pub keeps_more : (steps : List Step) (places numbers : List ℕ) (i p : ℕ) (s new : Step) (kept now : List Step) → AreNeeded steps places → AreNumbers places numbers → i < length places → p ≡ get_or places i 0 → slice_get steps p ≡ Some s
    → IsCopy numbers s new → now ≡ kept ++ new ∷ [] → KeepsFirst steps places i kept → KeepsFirst steps places (i + 1) now
keeps_more steps places numbers i p s new kept now all numbered inside here at copy grown a =
    let size : length now ≡ i + 1 = ap length grown ∙ length_push kept new ∙ ap (λ n. n + 1) a.size in
    record {
      size = size;
      named = λ j x h e clauses. elim (cases_eq j i) [
        | inl same ↦
            let is : s ≡ x = same_Some s x (sym at ∙ ap (slice_get steps) here ∙ ap (λ k. slice_get steps (get_or places k 0)) (sym same) ∙ e) in
            let number : suc j ≡ length now = omega (arith, same, size) in
            ap (λ n. cited clauses now (Earlier n)) number ∙ ap (λ ss. cited clauses ss (Earlier (length ss))) grown ∙ last_cited clauses kept new ∙ ap Some copy.clause ∙ ap (λ y. Some y.clause) is
        | inr other ↦
            ap (λ ss. cited clauses ss (Earlier (suc j))) grown ∙ cited_later clauses kept (new ∷ []) (Earlier (suc j)) x.clause (a.named j x (omega (arith, other)) e clauses)
      ];
      good = λ clauses n g.
          let member : Contains places p = subst (Contains places) (sym here) (Contains-get_or places i 0 inside) in
          let stays = zip_stay (CitesOnly (Contains places) p) (IsRenamed numbers) (Stays (cited clauses (take p steps)) (cited clauses kept)) s.hints new.hints
          (λ h k f is. renamed_cited clauses steps places numbers i p kept h k all.rising numbered inside here f is a) (all.closed p s member at) copy.hints in
          let shown = subst (λ c. IsShown c (map (cited clauses kept) new.hints)) (sym copy.clause) (shown_stay (cited clauses (take p steps)) (cited clauses kept) s.clause s.hints new.hints stays (g.shown p s at)) in
          let hinted = hinted_stay (IsRenamed numbers) s.hints new.hints copy.hints (All-slice_get (λ x. x.hints ≢ []) steps g.hinted p s at) in
          subst (AreGood clauses n) (sym grown) (good_push clauses n kept new (a.good clauses n g) shown hinted (subst (AtomsBelow n) (sym copy.clause) (All-slice_get (λ x. AtomsBelow n x.clause) steps g.below p s at)));
      last = λ x h e.
          let one : i + 1 - 1 ≡ i = omega arith in
          let is : s ≡ x = same_Some s x (sym at ∙ ap (slice_get steps) here ∙ ap (λ k. slice_get steps (get_or places k 0)) (sym one) ∙ e) in
          subst (λ c. EndsWith now c) (copy.clause ∙ ap (λ y. y.clause) is) (subst (λ ss. EndsWith ss new.clause) (sym grown) (ends_with_push kept new));
    }

-- the last place is that of the last step
last_place : (steps : List Step) (places : List ℕ) → AreNeeded steps places → 0 < length steps → (0 < length places) × (get_or places (length places - 1) 0 ≡ length steps - 1)
last_place steps places all some =
    let found = slice_get-Contains places (length steps - 1) (all.last some) in
    let inside : found.0 < length places = slice_get_within places found.0 (length steps - 1) found.1 in
    let here : get_or places found.0 0 ≡ length steps - 1 = get_or_from_slice_get places found.0 (length steps - 1) 0 found.1 in
    let up = rises_to places found.0 (length places - 1) all.rising (omega arith) (omega arith) in
    let below : get_or places (length places - 1) 0 < length steps = All-get_or (λ k. k < length steps) places (length places - 1) 0 (omega arith) all.within in
    (omega arith, omega arith)

pub keeps_all : (steps : List Step) (places : List ℕ) (i : ℕ) (kept : List Step) → AreNeeded steps places → i ≡ length places → KeepsFirst steps places i kept → IsCutOf steps kept
keeps_all steps places i kept all whole a clauses n literals g last =
    let within = slice_get_within steps (length steps - 1) last.0 last.1 in
    let place = last_place steps places all (omega (arith, within)) in
    let ends = a.last last.0 (omega (arith, place.0)) (ap (λ m. slice_get steps (get_or places (m - 1) 0)) whole ∙ ap (slice_get steps) place.1 ∙ last.1) in (
      a.good clauses n g,
      (
        ends.0,
        ends.1,
        All-weaker (Contains last.0.clause) (Contains literals) (λ l c. All-contains (Contains literals) last.0.clause l last.2 c) ends.0.clause ends.2,
        All-weaker (Contains last.0.clause) (Contains ends.0.clause) (λ l c. All-contains (Contains ends.0.clause) last.0.clause l ends.3 c) literals last.3,
      ),
    )
