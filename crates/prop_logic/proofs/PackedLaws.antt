-- Words as lists of values.
use Rattle.std.proofs.Common.{◌≡◌, ◌≢◌, ℕ, suc, zero, ◌+◌, ◌/◌, ◌%◌, ◌<◌, ◌≤◌, Bool, true, false, ◌⊎◌, inl, inr, List, [], ◌∷◌, ◌++◌, length, map, set, get_or, Some, refl, sym, ap, ◌∙◌, subst, arith, length-set}
use Rattle.std.specs.Prelude.{slice_get, ◌==◌}
use Rattle.std.specs.List.{slice_index_or, range_with_len}
use Rattle.std.specs.Int.{bit_at}
use Rattle.std.proofs.lemmas.List.{ext_get_or, get_or-set_same, get_or-set_other}
use Rattle.std.proofs.lemmas.List.FromFn.{length-map-range_with_len, get_or-map-range_with_len}
use Rattle.std.proofs.lemmas.Bool.{cases_eq, true≢false}
use Rattle.std.proofs.lemmas.Option.{same_Some}
use Rattle.prop_logic.specs.Valuation.{IsHeld, value_at}
use Rattle.prop_logic.specs.Packed.{bit_of, is_set, values_of, digit_of}

pub values_length : (words : List ℕ) (len : ℕ) → length (values_of words len) ≡ len
values_length words len = length-map-range_with_len (is_set words) 0 len

pub packed_at : (words : List ℕ) (len k : ℕ) (d : Bool) → k < len → get_or (values_of words len) k d ≡ is_set words k
packed_at words len k d h = get_or-map-range_with_len (is_set words) 0 len k k d h (omega arith)

-- bit k of the words after one word was changed at one bit
pub bit_put : (words : List ℕ) (a k word : ℕ) (value : Bool) → a / 64 < length words → bit_at word (a % 64) ≡ digit_of value → ((i : ℕ) → i ≢ a % 64 → bit_at word i ≡ bit_at (slice_index_or words (a / 64) 0) i) → k ≢ a
    → bit_of (set words (a / 64) word) k ≡ bit_of words k
bit_put words a k word value inside here others apart = elim (cases_eq (k / 64) (a / 64)) [
  | inl same ↦
      let low : k % 64 ≢ a % 64 = λ e. apart (omega (arith, same, e)) in
      let read : slice_index_or (set words (a / 64) word) (k / 64) 0 ≡ word = ap (λ j. slice_index_or (set words (a / 64) word) j 0) same ∙ get_or-set_same words (a / 64) word 0 inside in
      ap (λ w. bit_at w (k % 64)) read ∙ others (k % 64) low ∙ ap (λ j. bit_at (slice_index_or words j 0) (k % 64)) (sym same)
  | inr other ↦ ap (λ w. bit_at w (k % 64)) (get_or-set_other words (a / 64) (k / 64) word 0 other)
]

pub bit_put_here : (words : List ℕ) (a word : ℕ) (value : Bool) → a / 64 < length words → bit_at word (a % 64) ≡ digit_of value → bit_of (set words (a / 64) word) a ≡ digit_of value
bit_put_here words a word value inside here = ap (λ w. bit_at w (a % 64)) (get_or-set_same words (a / 64) word 0 inside) ∙ here

digit_set : (value : Bool) → (digit_of value == 1) ≡ value
digit_set true = refl
digit_set false = refl

pub values_put : (words : List ℕ) (len a word : ℕ) (value : Bool) → a < len → a / 64 < length words → bit_at word (a % 64) ≡ digit_of value → ((i : ℕ) → i ≢ a % 64 → bit_at word i ≡ bit_at (slice_index_or words (a / 64) 0) i)
    → values_of (set words (a / 64) word) len ≡ set (values_of words len) a value
values_put words len a word value low inside here others =
    ext_get_or false (values_of (set words (a / 64) word) len) (set (values_of words len) a value)
    (values_length (set words (a / 64) word) len ∙ sym (length-set (values_of words len) a value ∙ values_length words len))
    (λ k h. at k (subst (λ n. k < n) (values_length (set words (a / 64) word) len) h))
  where
    at : (k : ℕ) → k < len → get_or (values_of (set words (a / 64) word) len) k false ≡ get_or (set (values_of words len) a value) k false
    at k h = elim (cases_eq k a) [
      | inl same ↦
          packed_at (set words (a / 64) word) len k false h ∙ ap (is_set (set words (a / 64) word)) same ∙ ap (λ n. n == 1) (bit_put_here words a word value inside here) ∙ digit_set value
          ∙ sym (ap (λ j. get_or (set (values_of words len) a value) j false) same ∙ get_or-set_same (values_of words len) a value false (subst (λ n. a < n) (sym (values_length words len)) low))
      | inr other ↦
          packed_at (set words (a / 64) word) len k false h ∙ ap (λ n. n == 1) (bit_put words a k word value inside here others other)
          ∙ sym (get_or-set_other (values_of words len) a k value false other ∙ packed_at words len k false h)
    ]

pub not_set : (words : List ℕ) (k : ℕ) → bit_of words k ≡ 0 → is_set words k ≡ false
not_set words k e = ap (λ n. n == 1) e

-- the value of an atom, false past the end
pub value_read : (words : List ℕ) (len k : ℕ) → ((i : ℕ) → len ≤ i → bit_of words i ≡ 0) → is_set words k ≡ get_or (values_of words len) k false
value_read words len k none = elim (within k) [
  | inl h ↦ sym (packed_at words len k false h)
  | inr h ↦ not_set words k (none k h) ∙ sym (past (values_of words len) k (omega (arith, h, values_length words len)))
]
  where
    within : (i : ℕ) → (i < len) ⊎ (len ≤ i)
    within i = grind arith

    past : (xs : List Bool) (i : ℕ) → length xs ≤ i → get_or xs i false ≡ false
    past [] i h = refl
    past (x ∷ xs) zero h = absurd (omega (arith, h))
    past (x ∷ xs) (suc i) h = past xs i (omega (arith, h))

-- one value more
pub values_more : (words : List ℕ) (len : ℕ) → bit_of words len ≡ 0 → values_of words (len + 1) ≡ values_of words len ++ false ∷ []
values_more words len none =
    let n : len + 1 ≡ suc len = omega arith in
    ap (values_of words) n ∙ map_last len 0 (omega arith)
  where
    map_last : (n a : ℕ) → a + n ≡ len → map (is_set words) (range_with_len a (suc n)) ≡ map (is_set words) (range_with_len a n) ++ false ∷ []
    map_last zero a e =
        let here : is_set words a ≡ false = ap (is_set words) (omega (arith, e)) ∙ not_set words len none in
        ap (λ b. b ∷ []) here
    map_last (suc n) a e = ap (λ xs. is_set words a ∷ xs) (map_last n (a + 1) (omega (arith, e)))

-- a word of zeros at the end changes no bit
pub bit_zero : (words : List ℕ) (k : ℕ) → bit_of (words ++ 0 ∷ []) k ≡ bit_of words k
bit_zero words k = ap (λ w. bit_at w (k % 64)) (same words (k / 64))
  where
    same : (xs : List ℕ) (i : ℕ) → get_or (xs ++ 0 ∷ []) i 0 ≡ get_or xs i 0
    same [] zero = refl
    same [] (suc i) = refl
    same (x ∷ xs) zero = refl
    same (x ∷ xs) (suc i) = same xs i

pub values_zero : (words : List ℕ) (len : ℕ) → values_of (words ++ 0 ∷ []) len ≡ values_of words len
values_zero words len = same_map (range_with_len 0 len)
  where
    same_map : (ks : List ℕ) → map (is_set (words ++ 0 ∷ [])) ks ≡ map (is_set words) ks
    same_map [] = refl
    same_map (k ∷ ks) = ap (λ b. b ∷ map (is_set (words ++ 0 ∷ [])) ks) (ap (λ n. n == 1) (bit_zero words k)) ∙ ap (λ xs. is_set words k ∷ xs) (same_map ks)

-- a new value at the end
pub set_last : {X : Type 0} (xs : List X) (x y : X) → set (xs ++ x ∷ []) (length xs) y ≡ xs ++ y ∷ []
set_last [] x y = refl
set_last (z ∷ zs) x y = ap (λ l. z ∷ l) (set_last zs x y)

-- the value read as a fact
pub value_held : (xs : List Bool) (k : ℕ) (b : Bool) → b ≡ value_at xs k → (b ≡ true → IsHeld xs k) × (IsHeld xs k → b ≡ true)
value_held xs k b e = (λ t. held xs k (sym e ∙ t), λ h. e ∙ read xs k h)
  where
    held : (ys : List Bool) (i : ℕ) → get_or ys i false ≡ true → slice_get ys i ≡ Some true
    held [] i t = absurd (true≢false (sym t))
    held (y ∷ ys) zero t = ap Some t
    held (y ∷ ys) (suc i) t = held ys i t

    read : (ys : List Bool) (i : ℕ) → slice_get ys i ≡ Some true → get_or ys i false ≡ true
    read [] i h = absurd cc
    read (y ∷ ys) zero h = same_Some y true h
    read (y ∷ ys) (suc i) h = read ys i h
