-- An id among those that a query's copy met, which are kept in two parts.
use Rattle.std.proofs.Common.{◌≡◌, ℕ, ◌+◌, ◌-◌, ◌<◌, ◌≤◌, List, [], ◌∷◌, ◌++◌, refl, sym, ap, ◌∙◌, subst, length, take, Bool, true, false, nat_eq, Some, None, append_assoc, arith, inl, inr}
use Rattle.std.proofs.lemmas.List.{append-nil, take_more_set, length-take-le, get_or-append_right}
use Rattle.std.proofs.lemmas.Option.{get_or_from_slice_get}
use Rattle.std.proofs.lemmas.Bool.{ltb-false}
use Rattle.std.proofs.lemmas.Bool.Decides.{Decides-ltb, Decides-eqb}
use Rattle.std.specs.Prelude.{position, nat_lt, slice_get, slice_set}
use Rattle.std.specs.List.{list_any, position_or_len, IsDistinct, AllByRecursion}
use Rattle.inst_logic.proofs.Numbers.{last_or_before}
use Rattle.indexmap.specs.IndexSet.{insert_key}
use Rattle.term_index.specs.Copies.{id_of, CopiesOne}
use Rattle.term_index.proofs.CopyLaws.{one_copied}

-- the first part is full where there are so many
pub full : (n : ℕ) (ys : List ℕ) → n ≤ 8 → (n < 8 → ys ≡ []) → 8 ≤ n + length ys → n ≡ 8
full n ys most few many = elim (last_or_before n 8 (omega arith)) [
  | inl l ↦ let k : length ys ≡ 0 = ap length (few l) in absurd (omega arith)
  | inr e ↦ e
]

module _ {X : Type 0} (p : X → Bool) where
  stays : (xs ys : List X) → position_or_len p xs < length xs → (list_any p (xs ++ ys) ≡ true) × (position_or_len p (xs ++ ys) ≡ position_or_len p xs)
  stays [] ys h = absurd (omega arith)
  stays (x ∷ xs) ys h = by (p x) refl (stays xs ys)
    where
      by : (b : Bool) → p x ≡ b → (position_or_len p xs < length xs → (list_any p (xs ++ ys) ≡ true) × (position_or_len p (xs ++ ys) ≡ position_or_len p xs))
          → (list_any p (x ∷ xs ++ ys) ≡ true) × (position_or_len p (x ∷ xs ++ ys) ≡ position_or_len p (x ∷ xs))
      by true e rest = rw e (refl, refl)
      by false e rest =
          let h' = rw e at h in
          let k = rest (omega arith) in
          rw e (k.0, ap (λ n. 1 + n) k.1)

  moves : (xs ys : List X) → length xs ≤ position_or_len p xs → (list_any p (xs ++ ys) ≡ list_any p ys) × (position_or_len p (xs ++ ys) ≡ length xs + position_or_len p ys)
  moves [] ys h = (refl, omega arith)
  moves (x ∷ xs) ys h = by (p x) refl (moves xs ys)
    where
      by : (b : Bool) → p x ≡ b → (length xs ≤ position_or_len p xs → (list_any p (xs ++ ys) ≡ list_any p ys) × (position_or_len p (xs ++ ys) ≡ length xs + position_or_len p ys))
          → (list_any p (x ∷ xs ++ ys) ≡ list_any p ys) × (position_or_len p (x ∷ xs ++ ys) ≡ length (x ∷ xs) + position_or_len p ys)
      by true e rest = let h' = rw e at h in absurd (omega arith)
      by false e rest =
          let h' = rw e at h in
          let k = rest (omega arith) in
          rw e (k.0, let n = k.1 in omega arith)

  -- one that is in the first part is in the whole, at the same place
  in_first : (xs ys : List X) (i : ℕ) → position p xs ≡ Some i → (list_any p (xs ++ ys) ≡ true) × (i ≡ position_or_len p (xs ++ ys))
  in_first xs ys i = by (nat_lt (position_or_len p xs) (length xs)) refl
    where
      by : (b : Bool) → nat_lt (position_or_len p xs) (length xs) ≡ b → position p xs ≡ Some i → (list_any p (xs ++ ys) ≡ true) × (i ≡ position_or_len p (xs ++ ys))
      by true e h =
          let k = stays xs ys ((Decides-ltb (position_or_len p xs) (length xs)).0 e) in
          let h' : Some (position_or_len p xs) ≡ Some i = rw e at h in
          let n : position_or_len p xs ≡ i = cc in
          (k.0, sym (k.1 ∙ n))
      by false e h = let h' : None ≡ Some i = rw e at h in absurd (cc)

  -- one that is not is in the whole where it is in the second part
  not_in_first : (xs ys : List X) → position p xs ≡ None → (list_any p (xs ++ ys) ≡ list_any p ys) × (position_or_len p (xs ++ ys) ≡ length xs + position_or_len p ys)
  not_in_first xs ys = by (nat_lt (position_or_len p xs) (length xs)) refl
    where
      by : (b : Bool) → nat_lt (position_or_len p xs) (length xs) ≡ b → position p xs ≡ None → (list_any p (xs ++ ys) ≡ list_any p ys) × (position_or_len p (xs ++ ys) ≡ length xs + position_or_len p ys)
      by true e h = let h' : Some (position_or_len p xs) ≡ None = rw e at h in absurd (cc)
      by false e h = moves xs ys (ltb-false (position_or_len p xs) (length xs) e)

-- what an insertion does is what one more id asks
copies : (ids more : List ℕ) (a n : ℕ) → more ≡ insert_key nat_eq ids a → n ≡ position_or_len (nat_eq a) ids → CopiesOne ids more a n
copies ids more a n e k = rw (e, k) (one_copied ids a)

-- an insertion into the second part
inserted_later : (xs ys : List ℕ) (a : ℕ) → position (nat_eq a) xs ≡ None → xs ++ insert_key nat_eq ys a ≡ insert_key nat_eq (xs ++ ys) a
inserted_later xs ys a h = by (list_any (nat_eq a) ys) refl
  where
    by : (b : Bool) → list_any (nat_eq a) ys ≡ b → xs ++ insert_key nat_eq ys a ≡ insert_key nat_eq (xs ++ ys) a
    by true e = rw ((not_in_first (nat_eq a) xs ys h).0, e) refl
    by false e = rw ((not_in_first (nat_eq a) xs ys h).0, e) (sym (append_assoc xs ys (a ∷ [])))

pub copies_first : (xs ys : List ℕ) (a n : ℕ) → position (nat_eq a) xs ≡ Some n → CopiesOne (xs ++ ys) (xs ++ ys) a n
copies_first xs ys a n h =
    let k = in_first (nat_eq a) xs ys n h in
    copies (xs ++ ys) (xs ++ ys) a n (rw k.0 refl) k.1

-- the first part with one more, where the second is empty
pushed : (xs ys : List ℕ) (a j n : ℕ) → n ≡ j → j < length xs → ys ≡ [] → position (nat_eq a) (take j xs) ≡ None → take (n + 1) (slice_set xs n a) ++ ys ≡ insert_key nat_eq (take j xs ++ ys) a
pushed xs ys a j n same w e h =
    ap (λ k. take (k + 1) (slice_set xs k a) ++ ys) same ∙ ap (λ zs. zs ++ ys) (take_more_set xs j a w) ∙ ap (λ zs. (take j xs ++ a ∷ []) ++ zs) e ∙ append-nil (take j xs ++ a ∷ []) ∙ inserted_later (take j xs) [] a h
    ∙ ap (λ zs. insert_key nat_eq (take j xs ++ zs) a) (sym e)

pub copies_last : (xs ys : List ℕ) (a j n : ℕ) → n ≡ j → j < length xs → ys ≡ [] → position (nat_eq a) (take j xs) ≡ None → CopiesOne (take j xs ++ ys) (take (n + 1) (slice_set xs n a) ++ ys) a n
copies_last xs ys a j n same w e h =
    copies (take j xs ++ ys) (take (n + 1) (slice_set xs n a) ++ ys) a n (pushed xs ys a j n same w e h)
    (let k = (not_in_first (nat_eq a) (take j xs) ys h).1 in
    let z : position_or_len (nat_eq a) ys ≡ 0 = ap (position_or_len (nat_eq a)) e in
    let l : length (take j xs) ≡ j = length-take-le j xs (omega (arith, w)) in
    omega (arith, k, z, l, same))

pub copies_later : (xs ys zs : List ℕ) (a n k : ℕ) → length xs ≡ n → zs ≡ insert_key nat_eq ys a → k ≡ position_or_len (nat_eq a) ys → position (nat_eq a) xs ≡ None → CopiesOne (xs ++ ys) (xs ++ zs) a (n + k)
copies_later xs ys zs a n k l e is h =
    copies (xs ++ ys) (xs ++ zs) a (n + k) (ap (λ us. xs ++ us) e ∙ inserted_later xs ys a h)
    (let p = (not_in_first (nat_eq a) xs ys h).1 in omega (arith, p, l, is))

all_push : (P : ℕ → Type 0) (xs : List ℕ) (y : ℕ) → AllByRecursion P xs → P y → AllByRecursion P (xs ++ y ∷ [])
all_push P [] y h k = (k, tt)
all_push P (x ∷ xs) y h k = (h.0, all_push P xs y h.1 k)

other : (a x : ℕ) → nat_eq a x ≡ false → nat_eq x a ≡ false
other a x h = by (nat_eq x a) refl
  where
    by : (b : Bool) → nat_eq x a ≡ b → nat_eq x a ≡ false
    by true e = let k : nat_eq a x ≡ true = (Decides-eqb a x).1 (sym ((Decides-eqb x a).0 e)) in absurd (cc)
    by false e = e

-- one more that is new
distinct_push : (ids : List ℕ) (a : ℕ) → IsDistinct nat_eq ids → list_any (nat_eq a) ids ≡ false → IsDistinct nat_eq (ids ++ a ∷ [])
unfolding IsDistinct
distinct_push [] a d = λ h. (tt, tt)
distinct_push (x ∷ ids) a d = by (nat_eq a x) refl (distinct_push ids a d.1)
  where
    by : (b : Bool) → nat_eq a x ≡ b → (list_any (nat_eq a) ids ≡ false → IsDistinct nat_eq (ids ++ a ∷ [])) → list_any (nat_eq a) (x ∷ ids) ≡ false → IsDistinct nat_eq ((x ∷ ids) ++ a ∷ [])
    by true e rest h = let h' = rw e at h in absurd (cc)
    by false e rest h = let h' = rw e at h in (all_push (λ y. nat_eq x y ≡ false) ids a d.0 (other a x e), rest h')

distinct_inserted : (ids : List ℕ) (a : ℕ) → IsDistinct nat_eq ids → IsDistinct nat_eq (insert_key nat_eq ids a)
distinct_inserted ids a d = by (list_any (nat_eq a) ids) refl
  where
    by : (b : Bool) → list_any (nat_eq a) ids ≡ b → IsDistinct nat_eq (insert_key nat_eq ids a)
    by true e = rw e d
    by false e = rw e (distinct_push ids a d e)

pub distinct_one : (ids : List ℕ) (a : ℕ) → ids ≡ [] → IsDistinct nat_eq (a ∷ ids)
unfolding IsDistinct
distinct_one ids a e = subst (λ xs. IsDistinct nat_eq (a ∷ xs)) (sym e) (tt, tt)

pub distinct_last : (xs ys : List ℕ) (a j n : ℕ) → n ≡ j → j < length xs → ys ≡ [] → position (nat_eq a) (take j xs) ≡ None → IsDistinct nat_eq (take j xs ++ ys) → IsDistinct nat_eq (take (n + 1) (slice_set xs n a) ++ ys)
distinct_last xs ys a j n same w e h d = subst (IsDistinct nat_eq) (sym (pushed xs ys a j n same w e h)) (distinct_inserted (take j xs ++ ys) a d)

pub distinct_later : (xs ys zs : List ℕ) (a : ℕ) → zs ≡ insert_key nat_eq ys a → position (nat_eq a) xs ≡ None → IsDistinct nat_eq (xs ++ ys) → IsDistinct nat_eq (xs ++ zs)
distinct_later xs ys zs a e h d = subst (IsDistinct nat_eq) (sym (ap (λ us. xs ++ us) e ∙ inserted_later xs ys a h)) (distinct_inserted (xs ++ ys) a d)

-- reads of the second part
pub read_later : (xs ys ids : List ℕ) (j n i : ℕ) → xs ++ ys ≡ ids → length xs ≡ j → j ≤ n → slice_get ys (n - j) ≡ Some i → i ≡ id_of ids n
read_later xs ys ids j n i e l w h = sym (ap (λ zs. id_of zs n) (sym e) ∙ get_or-append_right xs ys j n 0 l w ∙ get_or_from_slice_get ys (n - j) i 0 h)
