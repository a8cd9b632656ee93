-- What the values say of a clause.
use Rattle.std.proofs.Common.{◌≡◌, ◌≢◌, ℕ, suc, zero, Bool, true, false, not, cond, ◌⊎◌, inl, inr, List, [], ◌∷◌, ◌+◌, ◌≤◌, length, take, get_or, Option, Some, None, refl, sym, ap, ◌∙◌, subst, arith}
use Rattle.std.specs.Prelude.{All, AllPairs, Contains, MatchBool, slice_get, ◌==◌, ◌&&◌}
use Rattle.std.specs.List.{AllWithin}
use Rattle.std.proofs.lemmas.List.{take_all}
use Rattle.std.proofs.lemmas.List.Elements.{All-nil, All-cons, All-weaker, All-contains, All-map, All-contains_itself}
use Rattle.std.proofs.lemmas.Option.{none-some, same_Some, get_or_from_slice_get}
use Rattle.std.proofs.lemmas.Bool.{eqb-true, eqb-false, eq-eqb, cases_eq}
use Rattle.std.proofs.Math.Dec.{eqb}
use Rattle.std.specs.Bool.{beq}
use Rattle.inst_logic.proofs.Items.{contains_here, contains_there}
use Rattle.prop_logic.proofs.ListLaws.{Contains-slice_get}
use Rattle.inst_logic.specs.declared.signed.Signed.{Signed}
use Rattle.inst_logic.specs.Signed.{complement}
use Rattle.cdcl_trail.specs.declared.entry.Entry.{Entry}
use Rattle.cdcl_trail.specs.Propagation.{IsFalseIn, GivesUnit, IsStable}
use Rattle.cdcl_trail.specs.Scan.{IsOpenAt, HasRest, RestsAt}
use Rattle.cdcl_trail.specs.Trail.{IsUnset, value_of, literals_of}

pub same_lit : (a l : Signed ℕ) → a.atom ≡ l.atom → a.positive ≡ l.positive → a ≡ l
same_lit a l atoms signs =
    let make : ℕ → Bool → Signed ℕ = λ n p. record { positive = p; atom = n } in
    ap (λ n. make n a.positive) atoms ∙ ap (λ p. make l.atom p) signs

sign_true : (p q : Bool) → cond p q (not q) ≡ true → p ≡ q
sign_true true true h = refl
sign_true true false h = absurd cc
sign_true false true h = absurd cc
sign_true false false h = refl

sign_false : (p q : Bool) → cond p q (not q) ≡ false → p ≡ not q
sign_false true true h = absurd cc
sign_false true false h = refl
sign_false false true h = refl
sign_false false false h = absurd cc

pub true_value : (es : List Entry) (l : Signed ℕ) → value_of es l ≡ Some true → Contains (literals_of es) l
true_value [] l h = absurd (none-some true h)
true_value (e ∷ es) l h = by_test (e.lit.atom == l.atom) refl h (true_value es l)
  where
    by_test : (b : Bool) → (e.lit.atom == l.atom) ≡ b → value_of (e ∷ es) l ≡ Some true → (value_of es l ≡ Some true → Contains (literals_of es) l) → Contains (literals_of (e ∷ es)) l
    by_test true t v rest =
        let w = rw t at v in
        let same = same_lit e.lit l (eqb-true e.lit.atom l.atom t) (sign_true e.lit.positive l.positive (same_Some (cond e.lit.positive l.positive (not l.positive)) true w)) in
        subst (λ x. Contains (literals_of (e ∷ es)) x) same (contains_here e.lit (literals_of es))
    by_test false t v rest = let w = rw t at v in contains_there e.lit l (literals_of es) (rest w)

pub false_value : (es : List Entry) (l : Signed ℕ) → value_of es l ≡ Some false → IsFalseIn es l
false_value [] l h = absurd (none-some false h)
false_value (e ∷ es) l h = by_test (e.lit.atom == l.atom) refl h (false_value es l)
  where
    by_test : (b : Bool) → (e.lit.atom == l.atom) ≡ b → value_of (e ∷ es) l ≡ Some false → (value_of es l ≡ Some false → IsFalseIn es l) → IsFalseIn (e ∷ es) l
    by_test true t v rest =
        let w = rw t at v in
        let same = same_lit e.lit (complement l) (eqb-true e.lit.atom l.atom t) (sign_false e.lit.positive l.positive (same_Some (cond e.lit.positive l.positive (not l.positive)) false w)) in
        subst (λ x. Contains (literals_of (e ∷ es)) x) same (contains_here e.lit (literals_of es))
    by_test false t v rest = let w = rw t at v in contains_there e.lit (complement l) (literals_of es) (rest w)

pub none_value : (es : List Entry) (l : Signed ℕ) → value_of es l ≡ None → IsUnset es l.atom
none_value [] l h = All-nil (λ e. e.lit.atom ≢ l.atom)
none_value (e ∷ es) l h = by_test (e.lit.atom == l.atom) refl h (none_value es l)
  where
    by_test : (b : Bool) → (e.lit.atom == l.atom) ≡ b → value_of (e ∷ es) l ≡ None → (value_of es l ≡ None → IsUnset es l.atom) → IsUnset (e ∷ es) l.atom
    by_test true t v rest = let w = rw t at v in absurd (none-some (cond e.lit.positive l.positive (not l.positive)) (sym w))
    by_test false t v rest = let w = rw t at v in All-cons (λ x. x.lit.atom ≢ l.atom) e es (eqb-false e.lit.atom l.atom t) (rest w)

-- an entry of a literal
pub of_literal : (es : List Entry) (l : Signed ℕ) → Contains (literals_of es) l → (e : Entry) × Contains es e × (e.lit ≡ l)
of_literal es l c =
    All-contains (λ x. (e : Entry) × Contains es e × (e.lit ≡ x)) (literals_of es) l
    (All-map (λ (x : Signed ℕ). (e : Entry) × Contains es e × (e.lit ≡ x)) (λ (e : Entry). e.lit) es
    (All-weaker (Contains es) (λ (y : Entry). (e : Entry) × Contains es e × (e.lit ≡ y.lit)) (λ y h. (y, h, refl)) es (All-contains_itself es))) c

one_entry : (es : List Entry) (x y : Entry) → AllPairs (λ a b. a.lit.atom ≢ b.lit.atom) es → Contains es x → Contains es y → x.lit.atom ≡ y.lit.atom → x ≡ y
one_entry [] x y once c d same = absurd (omega (arith, c.1))
one_entry (e ∷ es) x y once (zero, h, s) (zero, k, t) same = sym s ∙ t
one_entry (e ∷ es) x y once (zero, h, s) (suc j, k, t) same = absurd (once 0 (suc j) y (omega arith) k (ap (λ z. z.lit.atom) s ∙ same ∙ ap (λ z. z.lit.atom) (sym t)))
one_entry (e ∷ es) x y once (suc i, h, s) (zero, k, t) same = absurd (once 0 (suc i) x (omega arith) h (ap (λ z. z.lit.atom) t ∙ sym same ∙ ap (λ z. z.lit.atom) (sym s)))
one_entry (e ∷ es) x y once (suc i, h, s) (suc j, k, t) same =
    one_entry es x y (λ a b d p q. once (suc a) (suc b) d (omega (arith, p)) (omega (arith, q))) (i, omega (arith, h), s) (j, omega (arith, k), t) same

pub not_both : (es : List Entry) (l : Signed ℕ) → AllPairs (λ a b. a.lit.atom ≢ b.lit.atom) es → Contains (literals_of es) l → IsFalseIn es l → ⊥
not_both es l once c d =
    let x = of_literal es l c in
    let y = of_literal es (complement l) d in
    let same = one_entry es x.0 y.0 once x.1 y.1 (ap (λ z. z.atom) x.2 ∙ ap (λ z. z.atom) (sym y.2)) in
    let signs : l.positive ≡ not l.positive = ap (λ z. z.positive) (sym x.2) ∙ ap (λ (z : Entry). z.lit.positive) same ∙ ap (λ z. z.positive) y.2 in
    differ l.positive signs
  where
    differ : (b : Bool) → b ≡ not b → ⊥
    differ true h = absurd cc
    differ false h = absurd cc

unset_not_in : (es : List Entry) (l : Signed ℕ) → IsUnset es l.atom → Contains (literals_of es) l → ⊥
unset_not_in es l unset c = let x = of_literal es l c in All-contains (λ e. e.lit.atom ≢ l.atom) es x.0 unset x.1 (ap (λ z. z.atom) x.2)

unset_not_false : (es : List Entry) (l : Signed ℕ) → IsUnset es l.atom → IsFalseIn es l → ⊥
unset_not_false es l unset c = unset_not_in es (complement l) unset c

-- where no literal follows there is no conflict and no unit
rest_no_conflict : (es : List Entry) (c : List (Signed ℕ)) → AllPairs (λ a b. a.lit.atom ≢ b.lit.atom) es → HasRest es c → All (IsFalseIn es) c → ⊥
rest_no_conflict es c once (inl t) all = not_both es t.0 once t.2 (All-contains (IsFalseIn es) c t.0 all t.1)
rest_no_conflict es c once (inr t) all = unset_not_false es t.0 t.5 (All-contains (IsFalseIn es) c t.0 all t.2)

rest_no_unit : (es : List Entry) (c : List (Signed ℕ)) (l : Signed ℕ) → AllPairs (λ a b. a.lit.atom ≢ b.lit.atom) es → HasRest es c → IsUnset es l.atom → GivesUnit es c l → ⊥
rest_no_unit es c l once (inl t) unset unit =
    elim (All-contains (λ m. IsFalseIn es m ⊎ (m ≡ l)) c t.0 unit.others t.1) [
      | inl f ↦ not_both es t.0 once t.2 f
      | inr same ↦ unset_not_in es l unset (subst (λ x. Contains (literals_of es) x) same t.2)
    ]
rest_no_unit es c l once (inr t) unset unit =
    elim (All-contains (λ m. IsFalseIn es m ⊎ (m ≡ l)) c t.0 unit.others t.2) [
      | inl f ↦ unset_not_false es t.0 t.5 f
      | inr one ↦ elim (All-contains (λ m. IsFalseIn es m ⊎ (m ≡ l)) c t.1 unit.others t.3) [
        | inl f ↦ unset_not_false es t.1 t.6 f
        | inr two ↦ t.4 (one ∙ sym two)
      ]
    ]

pub rests_stable : (clauses : List (Option (List (Signed ℕ)))) (es : List Entry) → AllPairs (λ a b. a.lit.atom ≢ b.lit.atom) es → ((n : ℕ) → RestsAt clauses es n) → IsStable clauses es
rests_stable clauses es once rests = record {
  no_conflict = λ n k. rest_no_conflict es k.0 once (rests n k.0 k.1) k.2;
  no_unit = λ n c l at unset unit. rest_no_unit es c l once (rests n c at) unset unit;
}

-- literals that the comparison tells apart
pub unequal : (a l : Signed ℕ) → (beq a.positive l.positive && eqb a.atom l.atom) ≡ false → a ≢ l
unequal a l h e =
    let p : beq a.positive l.positive ≡ true = same_sign a.positive l.positive (ap (λ x. x.positive) e) in
    let q : eqb a.atom l.atom ≡ true = eq-eqb a.atom l.atom (ap (λ x. x.atom) e) in
    let k : (beq a.positive l.positive && eqb a.atom l.atom) ≡ true = rw p q in
    let bad : true ≡ false = sym k ∙ h in
    absurd cc
  where
    same_sign : (p q : Bool) → p ≡ q → beq p q ≡ true
    same_sign true true e = refl
    same_sign true false e = absurd cc
    same_sign false true e = absurd cc
    same_sign false false e = refl

-- literals that the comparison does not tell apart
pub equal : (a l : Signed ℕ) → (beq a.positive l.positive && eqb a.atom l.atom) ≡ true → a ≡ l
equal a l h = same_lit a l (eqb-true a.atom l.atom (second (beq a.positive l.positive) (eqb a.atom l.atom) h)) (same_sign a.positive l.positive (first (beq a.positive l.positive) (eqb a.atom l.atom) h))
  where
    first : (p q : Bool) → (p && q) ≡ true → p ≡ true
    first true q h = refl
    first false q h = absurd cc

    second : (p q : Bool) → (p && q) ≡ true → q ≡ true
    second true q h = h
    second false q h = absurd cc

    same_sign : (p q : Bool) → beq p q ≡ true → p ≡ q
    same_sign true true e = refl
    same_sign true false e = absurd cc
    same_sign false true e = absurd cc
    same_sign false false e = refl

-- what the value says of a literal
pub true_has_value : (es : List Entry) (l : Signed ℕ) → AllPairs (λ a b. a.lit.atom ≢ b.lit.atom) es → Contains (literals_of es) l → value_of es l ≡ Some true
true_has_value es l once f = by_value (value_of es l) refl
  where
    by_value : (o : Option Bool) → value_of es l ≡ o → value_of es l ≡ Some true
    by_value None e = absurd (unset_not_in es l (none_value es l e) f)
    by_value (Some true) e = e
    by_value (Some false) e = absurd (not_both es l once f (false_value es l e))

-- how a test of the value is decided
pub is_false_by : (es : List Entry) (l : Signed ℕ) (held : Bool) → AllPairs (λ a b. a.lit.atom ≢ b.lit.atom) es → value_of es l ≡ Some held → MatchBool (not held) (IsFalseIn es l) (IsFalseIn es l → ⊥)
is_false_by es l false once e = false_value es l e
is_false_by es l true once e = λ f. not_both es l once (true_value es l e) f

pub not_false_by : (es : List Entry) (l : Signed ℕ) → AllPairs (λ a b. a.lit.atom ≢ b.lit.atom) es → value_of es l ≡ None → IsFalseIn es l → ⊥
not_false_by es l once e f = unset_not_false es l (none_value es l e) f

pub is_true_by : (es : List Entry) (l : Signed ℕ) (held : Bool) → AllPairs (λ a b. a.lit.atom ≢ b.lit.atom) es → value_of es l ≡ Some held → MatchBool held (Contains (literals_of es) l) (Contains (literals_of es) l → ⊥)
is_true_by es l true once e = true_value es l e
is_true_by es l false once e = λ f. not_both es l once f (false_value es l e)

pub not_true_by : (es : List Entry) (l : Signed ℕ) → AllPairs (λ a b. a.lit.atom ≢ b.lit.atom) es → value_of es l ≡ None → Contains (literals_of es) l → ⊥
not_true_by es l once e f = unset_not_in es l (none_value es l e) f

-- what holds of all the first items
pub all_past : {X : Type 0} (P : X → Type 0) (xs : List X) (i : ℕ) → length xs ≤ i → All P (take i xs) → All P xs
all_past P xs i h all = subst (All P) (take_all i xs h) all

pub decided_true : (b : Bool) (P Q : Type 0) → MatchBool b P Q → b ≡ true → P
decided_true true P Q m h = m
decided_true false P Q m h = absurd cc

pub decided_false : (b : Bool) (P Q : Type 0) → MatchBool b P Q → b ≡ false → Q
decided_false true P Q m h = absurd cc
decided_false false P Q m h = m

-- one literal more of a part of a clause
pub within_more : (P : Signed ℕ → Type 0) (xs : List (Signed ℕ)) (start i : ℕ) (x : Signed ℕ) → slice_get xs i ≡ Some x → AllWithin P xs start i → P x → AllWithin P xs start (i + 1)
within_more P xs start i x at before here k d low high = elim (cases_eq k i) [
  | inl e ↦ subst P (sym (get_or_from_slice_get xs k x d (ap (slice_get xs) e ∙ at))) here
  | inr n ↦ before k d low (omega (arith, high, n))
]

-- the literal at an open place
pub open_is : (es : List Entry) (clause : List (Signed ℕ)) (other : Signed ℕ) (place : ℕ) (x item : Signed ℕ) → IsOpenAt es clause other place → x ≡ item → item ≡ get_or clause place item → Contains clause x × (x ≢ other) × (IsFalseIn es x → ⊥)
open_is es clause other place x item o e f =
    let same : x ≡ o.0 = e ∙ f ∙ get_or_from_slice_get clause place o.0 item o.1 in
    subst (λ y. Contains clause y × (y ≢ other) × (IsFalseIn es y → ⊥)) (sym same) (Contains-slice_get clause place o.0 o.1, o.2, o.3)
