-- Places of clauses, and lists of them from which one is removed.
use Rattle.std.proofs.Common.{◌≡◌, ℕ, zero, suc, ◌+◌, ◌-◌, ◌<◌, ◌≤◌, ◌⊎◌, inl, inr, List, [], ◌∷◌, refl, sym, ap, ◌∙◌, subst as transport, length, get_or, nat_eq, Option, Some, None, arith, Contains}
use Rattle.std.specs.Prelude.{filter_map, remove, AllPairs, slice_index}
use Rattle.std.specs.List.{range_with_len, cons_option}
use Rattle.std.specs.List.Sorted.{IsStrictlyIncreasing}
use Rattle.std.proofs.lemmas.Bool.Decides.{Decides-eqb}
use Rattle.std.proofs.lemmas.List.Edits.{length-remove}
use Rattle.std.proofs.lemmas.List.FromFn.{length-range_with_len, get_or-range_with_len}
use Rattle.std.proofs.lemmas.List.Kept.{AllPairs-from_increasing}
use Rattle.std.proofs.lemmas.List.Quantifiers.{all_pairs_remove}
use Rattle.std.proofs.lemmas.Option.{same_Some, slice_get_within, slice_get-get_or}
use Rattle.inst_logic.specs.Clauses.{TreeClause}
use Rattle.inst_logic.specs.Derivations.{at_number}
use Rattle.inst_logic.proofs.Items.{slice_get-Contains}
use Rattle.inst_logic.proofs.Membership.{◌∈◌, in_contains, all_in, in_all, get_or_in}
use Rattle.inst_calculus.proofs.Distinct.{IsDistinct, length_within}
use Rattle.inst_calculus.proofs.MadeLists.{in_range, from_range}
use Rattle.inst_calculus.proofs.Filters.{in_or_not}
use Rattle.core_min.specs.Cores.{clauses_at, ArePlaces, HasRefutation, HasSelection, IsNeeded, IsCore, IsPartlyMinimal}
use Rattle.core_min.proofs.SubLists.{refutation_grows, selection_serves, not_both}

module _ {A B : Type 0} (h : A → Option B) where
  in_filter_map : (x : A) (y : B) (xs : List A) → x ∈ xs → h x ≡ Some y → y ∈ filter_map h xs
  in_filter_map x y [] i e = absurd i
  in_filter_map x y (z ∷ zs) (inl q) e = transport (λ o. y ∈ cons_option o (filter_map h zs)) (sym (ap h (sym q) ∙ e)) (inl refl)
  in_filter_map x y (z ∷ zs) (inr i) e = go (h z) (in_filter_map x y zs i e)
    where
      go : (o : Option B) → y ∈ filter_map h zs → y ∈ cons_option o (filter_map h zs)
      go (Some w) j = inr j
      go None j = j

  from_filter_map : (y : B) (xs : List A) → y ∈ filter_map h xs → (x : A) × (x ∈ xs) × (h x ≡ Some y)
  from_filter_map y [] i = absurd i
  from_filter_map y (z ∷ zs) i = go (h z) refl i (from_filter_map y zs)
    where
      go : (o : Option B) → h z ≡ o → y ∈ cons_option o (filter_map h zs) → (y ∈ filter_map h zs → (x : A) × (x ∈ zs) × (h x ≡ Some y)) → (x : A) × (x ∈ (z ∷ zs)) × (h x ≡ Some y)
      go (Some w) e (inl q) rest = (z, inl refl, e ∙ ap Some (sym q))
      go (Some w) e (inr j) rest = let (x, k, q) = rest j in (x, inr k, q)
      go None e j rest = let (x, k, q) = rest j in (x, inr k, q)

-- the clauses at more places are more
clauses_within : (cs : List TreeClause) (some places : List ℕ) → ((n : ℕ) → n ∈ some → n ∈ places) → (c : TreeClause) → c ∈ clauses_at cs some → c ∈ clauses_at cs places
clauses_within cs some places h c i = let (n, j, e) = from_filter_map (at_number cs) c some i in in_filter_map (at_number cs) n c places (h n j) e

-- Lists from which an item is removed

module _ {A : Type 0} where
  nothing_left : (x : A) (i : ℕ) → ¬ (x ∈ remove [] i)
  nothing_left x zero h = h
  nothing_left x (suc i) h = h

  from_remove : (x : A) (xs : List A) (i : ℕ) → x ∈ remove xs i → x ∈ xs
  from_remove x [] i h = absurd (nothing_left x i h)
  from_remove x (y ∷ ys) zero h = inr h
  from_remove x (y ∷ ys) (suc i) (inl e) = inl e
  from_remove x (y ∷ ys) (suc i) (inr h) = inr (from_remove x ys i h)

  -- an item that is not the removed one
  in_remove : (x d : A) (xs : List A) (i : ℕ) → x ∈ xs → ¬ (x ≡ get_or xs i d) → x ∈ remove xs i
  in_remove x d [] i h n = absurd h
  in_remove x d (y ∷ ys) zero (inl e) n = absurd (n e)
  in_remove x d (y ∷ ys) zero (inr h) n = h
  in_remove x d (y ∷ ys) (suc i) (inl e) n = inl e
  in_remove x d (y ∷ ys) (suc i) (inr h) n = inr (in_remove x d ys i h n)

  -- what stands after a later item was removed stands without that
  from_remove_later : (x : A) (xs : List A) (later i : ℕ) → i < later → x ∈ remove (remove xs later) i → x ∈ remove xs i
  from_remove_later x [] zero i l h = absurd (omega arith)
  from_remove_later x [] (suc later) i l h = absurd (nothing_left x i h)
  from_remove_later x (y ∷ ys) zero i l h = absurd (omega arith)
  from_remove_later x (y ∷ ys) (suc later) zero l h = from_remove x ys later h
  from_remove_later x (y ∷ ys) (suc later) (suc i) l (inl e) = inl e
  from_remove_later x (y ∷ ys) (suc later) (suc i) l (inr h) = inr (from_remove_later x ys later i (omega arith) h)

-- The deletion

rising_from_pairs : (xs : List ℕ) → AllPairs (λ x y. x < y) xs → IsStrictlyIncreasing xs
rising_from_pairs xs h k l = h k (k + 1) 0 (omega arith) l

module _ (cs : List TreeClause) where
  -- all clauses are at all places
  all_there : (c : TreeClause) → c ∈ cs → c ∈ clauses_at cs (range_with_len 1 (length cs))
  all_there c i =
      let (k, e) = slice_get-Contains cs c (in_contains c cs i) in
      let below = slice_get_within cs k c e in
      in_filter_map (at_number cs) (suc k) c (range_with_len 1 (length cs)) (in_range 1 (length cs) (suc k) (omega arith) (omega (arith, below))) e

  pub places_of_all : ArePlaces cs (range_with_len 1 (length cs))
  places_of_all = record {
    rising = λ k l.
        let long = length-range_with_len 1 (length cs) in
        let first = get_or-range_with_len 1 (length cs) k 0 (omega arith) in
        let second = get_or-range_with_len 1 (length cs) (k + 1) 0 (omega arith) in
        omega (arith, first, second);
    within = in_all (λ n. (0 < n) × (n ≤ length cs)) (range_with_len 1 (length cs)) (λ n i. let (low, high) = from_range 1 (length cs) n i in (low, omega arith));
  }

  pub begins : HasRefutation cs → IsPartlyMinimal cs (range_with_len 1 (length cs)) 0
  begins refuted = record {
    places_of = places_of_all;
    refuted = refutation_grows cs (clauses_at cs (range_with_len 1 (length cs))) all_there refuted;
    needed = λ i l. absurd (omega arith);
    count = omega arith;
  }

  module _ (places : List ℕ) where
    -- what is satisfiable at some places is so at fewer
    fewer_places : (some : List ℕ) → ((n : ℕ) → n ∈ some → n ∈ places) → HasSelection (clauses_at cs places) → HasSelection (clauses_at cs some)
    fewer_places some h = selection_serves (clauses_at cs some) (clauses_at cs places) (clauses_within cs some places h)

  pub places_without : (places : List ℕ) (i : ℕ) → ArePlaces cs places → i < length places → ArePlaces cs (remove places i)
  places_without places i h l = record {
    rising = rising_from_pairs (remove places i) (all_pairs_remove (λ x y. x < y) places i l (AllPairs-from_increasing places h.rising));
    within = in_all (λ n. (0 < n) × (n ≤ length cs)) (remove places i) (λ n j. all_in (λ n. (0 < n) × (n ≤ length cs)) places h.within n (from_remove n places i j));
  }

  pub drops : (places : List ℕ) (done : ℕ) → IsPartlyMinimal cs places done → done < length places → HasRefutation (clauses_at cs (remove places done)) → IsPartlyMinimal cs (remove places done) done
  drops places done partly l refuted = record {
    places_of = places_without places done partly.places_of l;
    refuted = refuted;
    needed = λ i below. fewer_places (remove places i) (remove (remove places done) i) (λ n. from_remove_later n places done i below) (partly.needed i below);
    count = let long = length-remove places done l in omega arith;
  }

  -- a sub-list that lacks the place of a needed clause is satisfiable
  lacking : (places some : List ℕ) (i : ℕ) → IsNeeded cs places i → ((n : ℕ) → n ∈ some → n ∈ places) → ¬ (slice_index places i ∈ some) → HasSelection (clauses_at cs some)
  lacking places some i needed within n =
      fewer_places (remove places i) some (λ m j. in_remove m 0 places i (within m j) (λ e. n (transport (λ x. x ∈ some) e j))) needed

  pub cited : (places some : List ℕ) (done : ℕ) → IsPartlyMinimal cs places done → ((n : ℕ) → n ∈ some → n ∈ places) → HasRefutation (clauses_at cs some) → (i : ℕ) → i < done → slice_index places i ∈ some
  cited places some done partly within refuted i below = go (in_or_not nat_eq Decides-eqb (slice_index places i) some)
    where
      go : (slice_index places i ∈ some) ⊎ ¬ (slice_index places i ∈ some) → slice_index places i ∈ some
      go (inl j) = j
      go (inr n) = absurd (not_both (clauses_at cs some) (lacking places some i (partly.needed i below) within n) refuted)

  pub minimal : (places some : List ℕ) → IsCore cs places → ((n : ℕ) → n ∈ some → n ∈ places) → (n : ℕ) → Contains places n → ¬ (n ∈ some) → HasSelection (clauses_at cs some)
  minimal places some core within n there absent =
      let (i, e) = slice_get-Contains places n there in
      let below = slice_get_within places i n e in
      let same : slice_index places i ≡ n = same_Some (slice_index places i) n (sym (slice_get-get_or places i 0 below) ∙ e) in
      lacking places some i (core.needed i below) within (λ j. absent (transport (λ m. m ∈ some) same j))

-- Rising lists

abbrev Rises : List ℕ → Type 0
Rises [] = Unit {0}
Rises (x ∷ xs) = ((y : ℕ) → y ∈ xs → x < y) × Rises xs

rises_from_pairs : (xs : List ℕ) → AllPairs (λ x y. x < y) xs → Rises xs
rises_from_pairs [] h = tt
rises_from_pairs (x ∷ xs) h = (
  λ y i. let (k, below, e) = in_contains y xs i in transport (λ z. x < z) e (h 0 (suc k) y (omega arith) (omega arith)),
  rises_from_pairs xs (λ i j d l below. h (suc i) (suc j) d (omega arith) (omega arith)),
)

rises : (xs : List ℕ) → IsStrictlyIncreasing xs → Rises xs
rises xs h = rises_from_pairs xs (AllPairs-from_increasing xs h)

-- a rising part of a rising list that has its first items begins with them
same_first : (n : ℕ) (xs ys : List ℕ) → Rises xs → Rises ys → ((z : ℕ) → z ∈ ys → z ∈ xs) → n ≤ length xs → ((i : ℕ) → i < n → get_or xs i 0 ∈ ys)
    → (n ≤ length ys) × ((i : ℕ) → i < n → get_or ys i 0 ≡ get_or xs i 0)
same_first zero xs ys g h within few first = (omega arith, λ i l. absurd (omega arith))
same_first (suc n) [] ys g h within few first = absurd (omega arith)
same_first (suc n) (x ∷ xs) [] g h within few first = absurd (first 0 (omega arith))
same_first (suc n) (x ∷ xs) (y ∷ ys) g h within few first = go (first 0 (omega arith)) (within y (inl refl)) (λ e sub kept. same_first n xs ys g.1 h.1 sub (omega arith) kept)
  where
    joined : x ≡ y → (n ≤ length ys) × ((i : ℕ) → i < n → get_or ys i 0 ≡ get_or xs i 0) → (suc n ≤ suc (length ys)) × ((i : ℕ) → i < suc n → get_or (y ∷ ys) i 0 ≡ get_or (x ∷ xs) i 0)
    joined e (long, same) = (omega (arith, long), each)
      where
        each : (i : ℕ) → i < suc n → get_or (y ∷ ys) i 0 ≡ get_or (x ∷ xs) i 0
        each zero l = sym e
        each (suc i) l = same i (omega arith)

    sub : x ≡ y → (z : ℕ) → z ∈ ys → z ∈ xs
    sub e z i = elim (within z (inr i)) [ inl q ↦ absurd (let more : y < z = h.0 z i in omega arith) | inr j ↦ j ]

    kept : x ≡ y → (i : ℕ) → i < n → get_or xs i 0 ∈ ys
    kept e i l = elim (first (suc i) (omega arith)) [
      | inl q ↦ absurd (let more : x < get_or xs i 0 = g.0 (get_or xs i 0) (get_or_in xs i 0 (omega arith)) in omega arith)
      | inr j ↦ j
    ]

    go : (x ≡ y) ⊎ (x ∈ ys) → (y ≡ x) ⊎ (y ∈ xs) → (x ≡ y → ((z : ℕ) → z ∈ ys → z ∈ xs) → ((i : ℕ) → i < n → get_or xs i 0 ∈ ys) → (n ≤ length ys) × ((i : ℕ) → i < n → get_or ys i 0 ≡ get_or xs i 0))
        → (suc n ≤ suc (length ys)) × ((i : ℕ) → i < suc n → get_or (y ∷ ys) i 0 ≡ get_or (x ∷ xs) i 0)
    go (inl e) d rest = joined e (rest e (sub e) (kept e))
    go (inr i) (inl q) rest = joined (sym q) (rest (sym q) (sub (sym q)) (kept (sym q)))
    go (inr i) (inr j) rest = absurd (let less : y < x = h.0 x i in let more : x < y = g.0 y j in omega arith)

item_of_removed : (xs : List ℕ) (i x : ℕ) → Rises xs → x ∈ remove xs i → i < length xs → ¬ (x ≡ get_or xs i 0)
item_of_removed [] i x h j l e = absurd (omega arith)
item_of_removed (y ∷ ys) zero x h j l e = let more : y < x = h.0 x j in omega arith
item_of_removed (y ∷ ys) (suc i) x h (inl q) l e = let more : y < get_or ys i 0 = h.0 (get_or ys i 0) (get_or_in ys i 0 (omega arith)) in omega arith
item_of_removed (y ∷ ys) (suc i) x h (inr j) l e = item_of_removed ys i x h.1 j (omega arith) e

module _ (cs : List TreeClause) where
  -- a refuted part of the list takes its place
  pub shrinks : (places some : List ℕ) (done : ℕ) → IsPartlyMinimal cs places done → IsStrictlyIncreasing some → ((n : ℕ) → n ∈ some → n ∈ places) → HasRefutation (clauses_at cs some) → IsPartlyMinimal cs some done
  shrinks places some done partly rising within refuted =
      let (long, same) = same_first done places some (rises places partly.places_of.rising) (rises some rising) within partly.count (cited cs places some done partly within refuted) in
      record {
        places_of = record {
          rising = rising;
          within = in_all (λ n. (0 < n) × (n ≤ length cs)) some (λ n i. all_in (λ n. (0 < n) × (n ≤ length cs)) places partly.places_of.within n (within n i));
        };
        refuted = refuted;
        needed = λ i below. fewer_places cs (remove places i) (remove some i)
            (λ n j. in_remove n 0 places i (within n (from_remove n some i j)) (λ e. item_of_removed some i n (rises some rising) j (omega arith) (e ∙ sym (same i below)))) (partly.needed i below);
        count = long;
      }

distinct_of_rising : (xs : List ℕ) → Rises xs → IsDistinct xs
distinct_of_rising [] h = tt
distinct_of_rising (x ∷ xs) h = ((λ i. let more : x < x = h.0 x i in absurd (omega arith)), distinct_of_rising xs h.1)

-- a refuted part without the place that was tried takes the list's place, and is shorter
pub shrinks_to_cited : (cs : List TreeClause) (places some : List ℕ) (done : ℕ) → IsPartlyMinimal cs places done → done < length places → IsStrictlyIncreasing some → ((n : ℕ) → n ∈ some → n ∈ remove places done)
    → HasRefutation (clauses_at cs some) → IsPartlyMinimal cs some done × (length some - done < length places - done)
shrinks_to_cited cs places some done partly below rising within refuted =
    let long = length-remove places done below in
    let fewer : length some ≤ length (remove places done) = length_within nat_eq Decides-eqb some (remove places done) (distinct_of_rising some (rises some rising)) within in
    (shrinks cs places some done partly rising (λ n i. from_remove n places done (within n i)) refuted, omega (arith, long, fewer))

-- where all clauses were decided
module _ (cs : List TreeClause) where
  pub whole_satisfiable : HasSelection (clauses_at cs (range_with_len 1 (length cs))) → HasSelection cs
  whole_satisfiable = selection_serves cs (clauses_at cs (range_with_len 1 (length cs))) (all_there cs)

  pub begins_with_cited : (some : List ℕ) → IsStrictlyIncreasing some → ((n : ℕ) → n ∈ some → n ∈ range_with_len 1 (length cs)) → HasRefutation (clauses_at cs some) → IsPartlyMinimal cs some 0
  begins_with_cited some rising within refuted = record {
    places_of = record {
      rising = rising;
      within = in_all (λ n. (0 < n) × (n ≤ length cs)) some (λ n i. let (low, high) = from_range 1 (length cs) n (within n i) in (low, omega arith));
    };
    refuted = refuted;
    needed = λ i l. absurd (omega arith);
    count = omega arith;
  }
