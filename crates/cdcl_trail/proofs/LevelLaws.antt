-- Entries up to a level, and how far propagation came there.
use Rattle.std.proofs.Common.{◌≡◌, ℕ, suc, zero, ◌<◌, ◌≤◌, Bool, true, false, List, [], ◌∷◌, ◌++◌, length, take, get_or, Some, refl, sym, ap, subst, arith}
use Rattle.std.specs.Prelude.{Contains, nat_le, slice_get}
use Rattle.std.proofs.lemmas.Bool.{leb-true}
use Rattle.std.proofs.lemmas.Bool.Decides.{nat_tests}
use Rattle.inst_logic.specs.declared.signed.Signed.{Signed}
use Rattle.inst_logic.proofs.Items.{contains_here, contains_there}
use Rattle.cdcl_trail.specs.Trail.{literals_of, entries_up_to}
use Rattle.cdcl_trail.specs.declared.entry.Entry.{Entry}

lt_leb : (a b : ℕ) → b < a → nat_le a b ≡ false
lt_leb a b h = grind (arith, nat_tests)

leb_false : (a b : ℕ) → nat_le a b ≡ false → b < a
leb_false a b h = grind (arith, nat_tests)

-- entries above a level do not count at it
pub added_above : (old new : List Entry) (k : ℕ) → take (length old) new ≡ old → ((i : ℕ) (e : Entry) → length old ≤ i → slice_get new i ≡ Some e → k < e.level) → entries_up_to new k ≡ entries_up_to old k
added_above [] [] k h above = refl
added_above [] (e ∷ es) k h above =
    let t : nat_le e.level k ≡ false = lt_leb e.level k (above 0 e (omega arith) refl) in
    rw t (added_above [] es k refl (λ i x low at. above (suc i) x (omega arith) at))
added_above (x ∷ xs) [] k h above = absurd cc
added_above (x ∷ xs) (y ∷ ys) k h above =
    let head : y ≡ x = first_same h in
    let rest : entries_up_to ys k ≡ entries_up_to xs k = added_above xs ys k (rest_same h) (λ i e low at. above (suc i) e (omega (arith, low)) at) in
    subst (λ z. entries_up_to (z ∷ ys) k ≡ entries_up_to (x ∷ xs) k) (sym head) (by_test (nat_le x.level k) refl rest)
  where
    first_same : take (length (x ∷ xs)) (y ∷ ys) ≡ x ∷ xs → y ≡ x
    first_same e = ap (λ l. get_or l 0 x) e

    rest_same : take (length (x ∷ xs)) (y ∷ ys) ≡ x ∷ xs → take (length xs) ys ≡ xs
    rest_same e = ap (λ l. tail l) e
      where
        tail : List Entry → List Entry
        tail [] = []
        tail (z ∷ zs) = zs

    by_test : (b : Bool) → nat_le x.level k ≡ b → entries_up_to ys k ≡ entries_up_to xs k → entries_up_to (x ∷ ys) k ≡ entries_up_to (x ∷ xs) k
    by_test true t r = rw t (ap (λ l. x ∷ l) r)
    by_test false t r = rw t r

-- a lower level of a lower level
pub up_to_up_to : (es : List Entry) (j k : ℕ) → j ≤ k → entries_up_to (entries_up_to es k) j ≡ entries_up_to es j
up_to_up_to [] j k h = refl
up_to_up_to (e ∷ es) j k h = by_test (nat_le e.level k) refl (nat_le e.level j) refl (up_to_up_to es j k h)
  where
    by_test : (a : Bool) → nat_le e.level k ≡ a → (b : Bool) → nat_le e.level j ≡ b → entries_up_to (entries_up_to es k) j ≡ entries_up_to es j → entries_up_to (entries_up_to (e ∷ es) k) j ≡ entries_up_to (e ∷ es) j
    by_test true s true t r = rw s (rw t (ap (λ l. e ∷ l) r))
    by_test true s false t r = rw s (rw t r)
    by_test false s true t r = absurd (omega (arith, h, leb_false e.level k s, leb-true e.level j t))
    by_test false s false t r = rw s (rw t r)

-- what is true up to a level is true
pub up_to_true : (es : List Entry) (k : ℕ) (l : Signed ℕ) → Contains (literals_of (entries_up_to es k)) l → Contains (literals_of es) l
up_to_true [] k l c = c
up_to_true (e ∷ es) k l c = by_test (nat_le e.level k) refl c (up_to_true es k l)
  where
    deeper : Contains (e.lit ∷ literals_of (entries_up_to es k)) l → (Contains (literals_of (entries_up_to es k)) l → Contains (literals_of es) l) → Contains (literals_of (e ∷ es)) l
    deeper (zero, h, same) rest = subst (Contains (literals_of (e ∷ es))) same (contains_here e.lit (literals_of es))
    deeper (suc i, h, same) rest = contains_there e.lit l (literals_of es) (rest (i, omega arith, same))

    by_test : (b : Bool) → nat_le e.level k ≡ b → Contains (literals_of (entries_up_to (e ∷ es) k)) l → (Contains (literals_of (entries_up_to es k)) l → Contains (literals_of es) l) → Contains (literals_of (e ∷ es)) l
    by_test true t c rest = let w = rw t at c in deeper w rest
    by_test false t c rest = let w = rw t at c in contains_there e.lit l (literals_of es) (rest w)

-- the present one is the one of each level past the list
pub get_past : {X : Type 0} (xs : List X) (k : ℕ) (d : X) → length xs ≤ k → get_or xs k d ≡ d
get_past [] k d h = refl
get_past (x ∷ xs) zero d h = absurd (omega (arith, h))
get_past (x ∷ xs) (suc k) d h = get_past xs k d (omega (arith, h))

pub get_push : {X : Type 0} (xs : List X) (k : ℕ) (d : X) → get_or (xs ++ d ∷ []) k d ≡ get_or xs k d
get_push [] zero d = refl
get_push [] (suc k) d = refl
get_push (x ∷ xs) zero d = refl
get_push (x ∷ xs) (suc k) d = get_push xs k d

pub get_cut : {X : Type 0} (xs : List X) (n k : ℕ) (d : X) → k ≤ n → get_or (take n xs) k (get_or xs n d) ≡ get_or xs k d
get_cut [] zero k d h = refl
get_cut [] (suc n) k d h = refl
get_cut (x ∷ xs) zero zero d h = refl
get_cut (x ∷ xs) zero (suc k) d h = absurd (omega (arith, h))
get_cut (x ∷ xs) (suc n) zero d h = refl
get_cut (x ∷ xs) (suc n) (suc k) d h = get_cut xs n k d (omega (arith, h))

pub get_within : {X : Type 0} (xs : List X) (k : ℕ) (d e : X) → k < length xs → get_or xs k d ≡ get_or xs k e
get_within [] k d e h = absurd (omega (arith, h))
get_within (x ∷ xs) zero d e h = refl
get_within (x ∷ xs) (suc k) d e h = get_within xs k d e (omega (arith, h))
