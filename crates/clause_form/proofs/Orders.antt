-- A variable among those that a walk met, which are kept in two parts.
use Rattle.std.proofs.Common.{◌≡◌, ℕ, ◌+◌, ◌<◌, ◌≤◌, List, [], ◌∷◌, ◌++◌, refl, sym, ap, ◌∙◌, length, Bool, true, false, Some, None, append_assoc, arith, inl, inr}
use Rattle.std.proofs.lemmas.List.{append-nil}
use Rattle.std.proofs.lemmas.Bool.{ltb-false}
use Rattle.std.proofs.lemmas.Bool.Decides.{Decides-ltb}
use Rattle.std.specs.Prelude.{position, nat_lt}
use Rattle.std.specs.List.{list_any, position_or_len}
use Rattle.inst_logic.proofs.Numbers.{last_or_before}
use Rattle.indexmap.specs.IndexSet.{insert_key}

-- the first part is full where there are so many
pub full : {X : Type 0} (n : ℕ) (ys : List X) → n ≤ 8 → (n < 8 → ys ≡ []) → 8 ≤ n + length ys → n ≡ 8
full n ys most few many = elim (last_or_before n 8 (omega arith)) [
  | inl l ↦ let k : length ys ≡ 0 = ap length (few l) in absurd (omega arith)
  | inr e ↦ e
]

module _ {X : Type 0} (p : X → Bool) where
  stays : (xs ys : List X) → position_or_len p xs < length xs → (list_any p (xs ++ ys) ≡ true) × (position_or_len p (xs ++ ys) ≡ position_or_len p xs)
  stays [] ys h = absurd (omega arith)
  stays (x ∷ xs) ys h = by (p x) refl (stays xs ys)
    where
      by : (b : Bool) → p x ≡ b → (position_or_len p xs < length xs → (list_any p (xs ++ ys) ≡ true) × (position_or_len p (xs ++ ys) ≡ position_or_len p xs))
          → (list_any p (x ∷ xs ++ ys) ≡ true) × (position_or_len p (x ∷ xs ++ ys) ≡ position_or_len p (x ∷ xs))
      by true e rest = rw e (refl, refl)
      by false e rest =
          let h' = rw e at h in
          let k = rest (omega arith) in
          rw e (k.0, ap (λ n. 1 + n) k.1)

  moves : (xs ys : List X) → length xs ≤ position_or_len p xs → (list_any p (xs ++ ys) ≡ list_any p ys) × (position_or_len p (xs ++ ys) ≡ length xs + position_or_len p ys)
  moves [] ys h = (refl, omega arith)
  moves (x ∷ xs) ys h = by (p x) refl (moves xs ys)
    where
      by : (b : Bool) → p x ≡ b → (length xs ≤ position_or_len p xs → (list_any p (xs ++ ys) ≡ list_any p ys) × (position_or_len p (xs ++ ys) ≡ length xs + position_or_len p ys))
          → (list_any p (x ∷ xs ++ ys) ≡ list_any p ys) × (position_or_len p (x ∷ xs ++ ys) ≡ length (x ∷ xs) + position_or_len p ys)
      by true e rest = let h' = rw e at h in absurd (omega arith)
      by false e rest =
          let h' = rw e at h in
          let k = rest (omega arith) in
          rw e (k.0, let n = k.1 in omega arith)

  -- one that is in the first part is in the whole, at the same place
  pub in_first : (xs ys : List X) (i : ℕ) → position p xs ≡ Some i → (list_any p (xs ++ ys) ≡ true) × (i ≡ position_or_len p (xs ++ ys))
  in_first xs ys i = by (nat_lt (position_or_len p xs) (length xs)) refl
    where
      by : (b : Bool) → nat_lt (position_or_len p xs) (length xs) ≡ b → position p xs ≡ Some i → (list_any p (xs ++ ys) ≡ true) × (i ≡ position_or_len p (xs ++ ys))
      by true e h =
          let k = stays xs ys ((Decides-ltb (position_or_len p xs) (length xs)).0 e) in
          let h' : Some (position_or_len p xs) ≡ Some i = rw e at h in
          let n : position_or_len p xs ≡ i = cc in
          (k.0, sym (k.1 ∙ n))
      by false e h = let h' : None ≡ Some i = rw e at h in absurd (cc)

  -- one that is not is in the whole where it is in the second part
  pub not_in_first : (xs ys : List X) → position p xs ≡ None → (list_any p (xs ++ ys) ≡ list_any p ys) × (position_or_len p (xs ++ ys) ≡ length xs + position_or_len p ys)
  not_in_first xs ys = by (nat_lt (position_or_len p xs) (length xs)) refl
    where
      by : (b : Bool) → nat_lt (position_or_len p xs) (length xs) ≡ b → position p xs ≡ None → (list_any p (xs ++ ys) ≡ list_any p ys) × (position_or_len p (xs ++ ys) ≡ length xs + position_or_len p ys)
      by true e h = let h' : Some (position_or_len p xs) ≡ None = rw e at h in absurd (cc)
      by false e h = moves xs ys (ltb-false (position_or_len p xs) (length xs) e)

  -- where the second part is empty, one that is not in the first has the length for a place
  pub number_last : (xs ys : List X) → position p xs ≡ None → ys ≡ [] → length xs + length ys ≡ position_or_len p (xs ++ ys)
  number_last xs ys h e =
      let k = (not_in_first xs ys h).1 in
      let m : length ys ≡ 0 = ap length e in
      let n : position_or_len p ys ≡ 0 = ap (position_or_len p) e in
      omega (arith, k, m, n)

module _ {X : Type 0} (eq : X → X → Bool) where
  -- nothing new
  pub insert_first : (xs ys : List X) (x : X) (i : ℕ) → position (eq x) xs ≡ Some i → xs ++ ys ≡ insert_key eq (xs ++ ys) x
  insert_first xs ys x i h = rw (in_first (eq x) xs ys i h).0 refl

  -- an insertion into the second part
  pub insert_later : (xs ys : List X) (x : X) → position (eq x) xs ≡ None → xs ++ insert_key eq ys x ≡ insert_key eq (xs ++ ys) x
  insert_later xs ys x h = by (list_any (eq x) ys) refl
    where
      by : (b : Bool) → list_any (eq x) ys ≡ b → xs ++ insert_key eq ys x ≡ insert_key eq (xs ++ ys) x
      by true e = rw ((not_in_first (eq x) xs ys h).0, e) refl
      by false e = rw ((not_in_first (eq x) xs ys h).0, e) (sym (append_assoc xs ys (x ∷ [])))

  -- an insertion where the second part is empty
  pub insert_last : (xs ys zs : List X) (x : X) → position (eq x) xs ≡ None → ys ≡ [] → zs ≡ xs ++ x ∷ [] → zs ++ ys ≡ insert_key eq (xs ++ ys) x
  insert_last xs ys zs x h e k = rw e (append-nil zs ∙ k ∙ insert_later xs [] x h)
