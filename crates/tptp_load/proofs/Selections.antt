-- Sets of names, and what a selection keeps.
use Rattle.std.proofs.Common.{◌≡◌, ℕ, ◌+◌, ◌<◌, List, [], ◌∷◌, ◌++◌, refl, ap, sym, subst, ◌∙◌, Bool, true, false, cond, take, drop, drop-cons, add-one, get_or, length, true≢false, Some, None}
use Rattle.std.specs.Prelude.{◌||◌, filter}
use Rattle.std.specs.List.{list_any}
use Rattle.std.specs.Str.{bytes_eq}
use Rattle.std.specs.Cmp.Lexicographic.{pointwise}
use Rattle.std.specs.Prelude.{nat_eq}
use Rattle.std.proofs.lemmas.Slice.Eq.{bytes_eq-Decides}
use Rattle.std.proofs.lemmas.List.{take_more, map-append}
use Rattle.std.proofs.lemmas.List.Folds.{list_any-append}
use Rattle.indexmap.specs.IndexSet.{insert_key}
use Rattle.tptp_load.specs.Includes.{Stated, is_stated, is_listed, listed, first_missing}
use Rattle.tptp_load.specs.Selecting.{HasSame, names_of, first_outside}
use Rattle.std.specs.Cmp.{decided}

or_of : (b c : Bool) → (c ≡ true → b ≡ true) → b ≡ (b || c)
or_of true c h = refl
or_of false true h = h refl
or_of false false h = refl

or_false : (b : Bool) → (b || false) ≡ b
or_false true = refl
or_false false = refl

pub same_with_key : (ks : List (List ℕ)) (k : List ℕ) → HasSame (insert_key (pointwise nat_eq) ks k) (ks ++ k ∷ [])
same_with_key ks k n = by (list_any (bytes_eq k) ks) refl
  where
    by : (b : Bool) → list_any (bytes_eq k) ks ≡ b → list_any (bytes_eq n) (cond b ks (ks ++ k ∷ [])) ≡ list_any (bytes_eq n) (ks ++ k ∷ [])
    by false e = refl
    by true e =
        or_of (list_any (bytes_eq n) ks) (bytes_eq n k || false) (λ h. (let same : n ≡ k = (bytes_eq-Decides n k).0 (sym (or_false (bytes_eq n k)) ∙ h) in ap (λ m. list_any (bytes_eq m) ks) same ∙ e))
        ∙ sym (list_any-append (bytes_eq n) ks (k ∷ []))

-- one more name of a list
pub same_more : (old new names : List (List ℕ)) (i : ℕ) (d : List ℕ) → HasSame old (take i names) → HasSame new (old ++ get_or names i d ∷ []) → i < length names → HasSame new (take (i + 1) names)
same_more old new names i d h g lt n =
    g n ∙ list_any-append (bytes_eq n) old (get_or names i d ∷ []) ∙ ap (λ b. b || list_any (bytes_eq n) (get_or names i d ∷ [])) (h n)
    ∙ sym (list_any-append (bytes_eq n) (take i names) (get_or names i d ∷ [])) ∙ ap (list_any (bytes_eq n)) (sym (take_more names i d lt))

pub same_name_more : (old new : List (List ℕ)) (stated : List Stated) (i : ℕ) (d : Stated) → HasSame old (names_of (take i stated)) → HasSame new (old ++ (get_or stated i d).name ∷ []) → i < length stated → HasSame new (names_of (take (i + 1) stated))
same_name_more old new stated i d h g lt n =
    g n ∙ list_any-append (bytes_eq n) old ((get_or stated i d).name ∷ []) ∙ ap (λ b. b || list_any (bytes_eq n) ((get_or stated i d).name ∷ [])) (h n)
    ∙ sym (list_any-append (bytes_eq n) (names_of (take i stated)) ((get_or stated i d).name ∷ []))
    ∙ ap (list_any (bytes_eq n)) (sym (ap names_of (take_more stated i d lt) ∙ map-append (λ s. s.name) (take i stated) (get_or stated i d ∷ [])))

-- ---- the first name that is not among the keys

pub step_in : (keys names : List (List ℕ)) (i : ℕ) (d : List ℕ) → i < length names → list_any (bytes_eq (get_or names i d)) keys ≡ true → first_outside keys (drop i names) ≡ first_outside keys (drop (i + 1) names)
step_in keys names i d lt h = rw (add-one, drop-cons names i d lt, h) refl

pub step_out : (keys names : List (List ℕ)) (i : ℕ) (d : List ℕ) → i < length names → list_any (bytes_eq (get_or names i d)) keys ≡ false → first_outside keys (drop i names) ≡ Some (get_or names i d)
step_out keys names i d lt h = rw (drop-cons names i d lt, h) refl

pub all_in_set : (keys names : List (List ℕ)) (i : ℕ) → i ≡ length names → first_outside keys (drop i names) ≡ None
all_in_set keys names i e = rw (e, drop_all names) refl
  where
    drop_all : (ns : List (List ℕ)) → drop (length ns) ns ≡ []
    drop_all [] = refl
    drop_all (n ∷ ns) = drop_all ns

-- ---- what is kept

pub kept_listed : (keys names : List (List ℕ)) (stated : List Stated) → HasSame keys names → filter (λ s. list_any (bytes_eq s.name) keys) stated ≡ listed names stated
kept_listed keys names [] h = refl
kept_listed keys names (s ∷ ss) h = λ i. cond (h s.name i) (s ∷ kept_listed keys names ss h i) (kept_listed keys names ss h i)

bytes_symmetric : (a b : List ℕ) → bytes_eq a b ≡ bytes_eq b a
bytes_symmetric = (decided bytes_eq bytes_eq-Decides).symm

not_same : (names : List (List ℕ)) (n m : List ℕ) → list_any (bytes_eq n) names ≡ true → list_any (bytes_eq m) names ≡ false → (b : Bool) → bytes_eq m n ≡ b → b ≡ false
not_same names n m h f true e = absurd (true≢false (sym (ap (λ k. list_any (bytes_eq k) names) ((bytes_eq-Decides m n).0 e) ∙ h) ∙ f))
not_same names n m h f false e = refl

kept_name_more : (names : List (List ℕ)) (n : List ℕ) (s : Stated) (ss : List Stated) → list_any (bytes_eq n) names ≡ true → (b : Bool) → is_listed names s ≡ b
    → list_any (bytes_eq n) (names_of (listed names ss)) ≡ is_stated ss n → list_any (bytes_eq n) (names_of (cond b (s ∷ listed names ss) (listed names ss))) ≡ (bytes_eq s.name n || is_stated ss n)
kept_name_more names n s ss h true e rest = λ i. bytes_symmetric n s.name i || rest i
kept_name_more names n s ss h false e rest = rest ∙ ap (λ b. b || is_stated ss n) (sym (not_same names n s.name h e (bytes_eq s.name n) refl))

-- a listed name is that of a kept statement where it is that of a statement
kept_name : (names : List (List ℕ)) (n : List ℕ) (stated : List Stated) → list_any (bytes_eq n) names ≡ true → list_any (bytes_eq n) (names_of (listed names stated)) ≡ is_stated stated n
kept_name names n [] h = refl
kept_name names n (s ∷ ss) h = kept_name_more names n s ss h (is_listed names s) refl (kept_name names n ss h)

first_name : (n : List ℕ) (ns : List (List ℕ)) → list_any (bytes_eq n) (n ∷ ns) ≡ true
first_name n ns = ap (λ b. b || list_any (bytes_eq n) ns) ((bytes_eq-Decides n n).1 refl)

later_name : (m n : List ℕ) (ns : List (List ℕ)) → list_any (bytes_eq m) ns ≡ true → list_any (bytes_eq m) (n ∷ ns) ≡ true
later_name m n ns h = by (bytes_eq m n)
  where
    by : (b : Bool) → (b || list_any (bytes_eq m) ns) ≡ true
    by true = refl
    by false = h

outside_of : (keys all : List (List ℕ)) (stated : List Stated) → HasSame keys (names_of (listed all stated)) → (names : List (List ℕ))
    → ((n : List ℕ) → list_any (bytes_eq n) names ≡ true → list_any (bytes_eq n) all ≡ true) → first_outside keys names ≡ first_missing stated names
outside_of keys all stated h [] sub = refl
outside_of keys all stated h (n ∷ ns) sub =
    λ i. cond ((h n ∙ kept_name all n stated (sub n (first_name n ns))) i) (outside_of keys all stated h ns (λ m e. sub m (later_name m n ns e)) i) (Some n)

pub outside_missing : (keys names : List (List ℕ)) (stated chosen : List Stated) → chosen ≡ listed names stated → HasSame keys (names_of chosen) → first_outside keys names ≡ first_missing stated names
outside_missing keys names stated chosen e h = outside_of keys names stated (subst (λ c. HasSame keys (names_of c)) e h) names (λ n k. k)

-- a set has the names that a list with the same names has
pub same_outside : (keys own names : List (List ℕ)) → HasSame keys own → first_outside keys names ≡ first_outside own names
same_outside keys own [] h = refl
same_outside keys own (n ∷ ns) h = λ i. cond (h n i) (same_outside keys own ns h i) (Some n)
