-- marks against the list of literals that they stand for
use Rattle.std.proofs.Common.{◌≡◌, ℕ, ◌+◌, ◌<◌, Bool, true, false, not, ◌&&◌, cond, eqb, ◌⊎◌, inl, inr, List, [], ◌∷◌, ◌++◌, length, take, drop, replicate, get_or, set, refl, sym, ap, ◌∙◌, subst, arith, eq-eqb, append_assoc, length-set, get_or-set_same, get_or-set_other}
use Rattle.std.specs.Prelude.{All, Contains}
use Rattle.std.specs.Bool.{beq}
use Rattle.std.proofs.lemmas.List.{take_more, get_or-replicate, length-replicate, take-append-drop}
use Rattle.std.proofs.lemmas.List.Elements.{All-push, All-contains, All-weaker, Contains-push, Contains-push_cases, Contains-append_left, Contains-get_or}
use Rattle.std.proofs.lemmas.Bool.{false≢true, cases_eq, eqb-true}
use Rattle.inst_logic.specs.declared.signed.Signed.{Signed}
use Rattle.inst_logic.specs.Derivations.{IsOnlyOutside}
use Rattle.proof_log.specs.Marks.{Marked, is_marked, with_mark, room, Holds}

-- the literal of an atom and a sign
abbrev lit : ℕ → Bool → Signed ℕ
lit a p = record { atom = a; positive = p }

is_marked_same : (m : Marked) (a : ℕ) (p : Bool) → length m.negative ≡ length m.positive → a < length m.positive → is_marked (with_mark m (lit a p)) (lit a p) ≡ true
is_marked_same m a true e h = get_or-set_same m.positive a true false h
is_marked_same m a false e h = let k : a < length m.negative = omega arith in get_or-set_same m.negative a true false k

-- another literal is marked as before
is_marked_other : (m : Marked) (a b : ℕ) (p q : Bool) → (lit b q ≡ lit a p → ⊥) → is_marked (with_mark m (lit a p)) (lit b q) ≡ is_marked m (lit b q)
is_marked_other m a b true true n = get_or-set_other m.positive a b true false (λ e. n (ap (λ x. lit x true) e))
is_marked_other m a b true false n = refl
is_marked_other m a b false true n = refl
is_marked_other m a b false false n = get_or-set_other m.negative a b true false (λ e. n (ap (λ x. lit x false) e))

same_sign : (p q : Bool) → (p ≡ q) ⊎ (p ≡ q → ⊥)
same_sign true true = inl refl
same_sign true false = inr (λ e. false≢true (sym e))
same_sign false true = inr (λ e. false≢true e)
same_sign false false = inl refl

pub cases_lit : (x y : Signed ℕ) → (x ≡ y) ⊎ (x ≡ y → ⊥)
cases_lit x y =
    elim (cases_eq x.atom y.atom) [
      | inl a ↦ elim (same_sign x.positive y.positive) [
        | inl p ↦ inl (ap (λ n. lit n x.positive) a ∙ ap (λ b. lit y.atom b) p)
        | inr n ↦ inr (λ e. n (ap (λ l. l.positive) e))
      ]
      | inr n ↦ inr (λ e. n (ap (λ l. l.atom) e))
    ]

pub holds_insert : (m : Marked) (F : List (Signed ℕ)) (l : Signed ℕ) → l.atom < room m → Holds m F → Holds (with_mark m l) (F ++ l ∷ [])
holds_insert m F l h t =
    let rooms : (p : Bool) → (length (cond p m.negative (set m.negative l.atom true)) ≡ length m.negative) × (length (cond p (set m.positive l.atom true) m.positive) ≡ length m.positive) =
    elim [ true ↦ (refl, length-set m.positive l.atom true) | false ↦ (length-set m.negative l.atom true, refl) ] in
    let r = rooms l.positive in (
      r.0 ∙ t.0 ∙ sym r.1,
      λ x k.
          let in_room : x.atom < room m = omega (arith, r.1, k) in (
            λ e. elim (cases_lit x l) [
              | inl same ↦ subst (λ y. Contains (F ++ l ∷ []) y) (sym same) (Contains-push F l)
              | inr other ↦ Contains-append_left F (l ∷ []) x ((t.1 x in_room).0 (sym (is_marked_other m l.atom x.atom l.positive x.positive other) ∙ e))
            ],
            λ c. elim (cases_lit x l) [
              | inl same ↦ subst (λ y. is_marked (with_mark m l) y ≡ true) (sym same) (is_marked_same m l.atom l.positive t.0 h)
              | inr other ↦ is_marked_other m l.atom x.atom l.positive x.positive other ∙ (t.1 x in_room).1
                  (elim (Contains-push_cases F l x c) [ inl old ↦ old | inr new ↦ absurd (other (sym new)) ])
            ],
          ),
    )

-- one more literal of a clause
pub holds_more : (m n : Marked) (F clause : List (Signed ℕ)) (i : ℕ) (d : Signed ℕ) → i < length clause → n ≡ with_mark m (get_or clause i d) → (get_or clause i d).atom < room m → Holds m (F ++ take i clause) → Holds n (F ++ take (i + 1) clause)
holds_more m n F clause i d h e a t =
    let l = get_or clause i d in
    let k : F ++ take (i + 1) clause ≡ (F ++ take i clause) ++ l ∷ [] = ap (λ xs. F ++ xs) (take_more clause i d h) ∙ sym (append_assoc F (take i clause) (l ∷ [])) in
    subst (λ G. Holds n G) (sym k) (subst (λ x. Holds x ((F ++ take i clause) ++ l ∷ [])) (sym e) (holds_insert m (F ++ take i clause) l a t))

pub holds_none : (m : Marked) (n : ℕ) → m.positive ≡ replicate n false → m.negative ≡ replicate n false → Holds m []
holds_none m n p q =
    let zero_of : (xs : List Bool) (a : ℕ) → xs ≡ replicate n false → a < length xs → get_or xs a false ≡ false =
    λ xs a e h. ap (λ ys. get_or ys a false) e ∙ get_or-replicate n a false false (omega (arith, ap length e, length-replicate n false)) in
    let same : length m.negative ≡ length m.positive = ap length q ∙ sym (ap length p) in
    let none : (a : ℕ) (s : Bool) → a < room m → is_marked m (lit a s) ≡ false =
    λ a. elim [ true ↦ λ h. zero_of m.positive a p h | false ↦ λ h. zero_of m.negative a q (omega (arith, same)) ] in
    (same, λ l h. (λ e. absurd (false≢true (sym (none l.atom l.positive h) ∙ e)), λ c. absurd (omega (arith, c.1))))

-- what a test of a mark says
pub marked_in : (m : Marked) (F : List (Signed ℕ)) (l : Signed ℕ) → Holds m F → l.atom < room m → is_marked m l ≡ true → Contains F l
marked_in m F l t h e = (t.1 l h).0 e

pub unmarked_out : (m : Marked) (F : List (Signed ℕ)) (l : Signed ℕ) → Holds m F → l.atom < room m → is_marked m l ≡ false → Contains F l → ⊥
unmarked_out m F l t h e c = false≢true (sym e ∙ (t.1 l h).1 c)

pub differ : (x y : Signed ℕ) → not (beq x.positive y.positive && eqb x.atom y.atom) ≡ true → x ≡ y → ⊥
differ x y e h =
    let same : (p : Bool) → beq p p ≡ true = elim [ true ↦ refl | false ↦ refl ] in
    let whole : (beq y.positive y.positive && eqb y.atom y.atom) ≡ true = ap (λ b. b && eqb y.atom y.atom) (same y.positive) ∙ eq-eqb y.atom y.atom refl in
    let f : not (beq y.positive y.positive && eqb y.atom y.atom) ≡ true = subst (λ z. not (beq z.positive y.positive && eqb z.atom y.atom) ≡ true) h e in
    false≢true (sym (ap not whole) ∙ f)

pub do_not_differ : (x y : Signed ℕ) → not (beq x.positive y.positive && eqb x.atom y.atom) ≡ false → x ≡ y
do_not_differ x y e =
    elim (cases_lit x y) [
      | inl same ↦ same
      | inr n ↦ absurd (n (parts (beq x.positive y.positive) (eqb x.atom y.atom) e (signs x.positive y.positive) (eqb-true x.atom y.atom)))
    ]
  where
    signs : (p q : Bool) → beq p q ≡ true → p ≡ q
    signs true true e = refl
    signs true false e = absurd cc
    signs false true e = absurd cc
    signs false false e = refl

    parts : (a b : Bool) → not (a && b) ≡ false → (a ≡ true → x.positive ≡ y.positive) → (b ≡ true → x.atom ≡ y.atom) → x ≡ y
    parts true true e f g = ap (λ n. lit n x.positive) (g refl) ∙ ap (λ p. lit y.atom p) (f refl)
    parts true false e f g = absurd cc
    parts false b e f g = absurd cc

-- the search for the one literal outside, one literal on
pub outside_first : (F clause : List (Signed ℕ)) (x : Signed ℕ) → All (Contains F) clause → (Contains F x → ⊥) → IsOnlyOutside F (clause ++ x ∷ []) x
outside_first F clause x a n = record {
  here = Contains-push clause x;
  outside = n;
  others = All-push (λ m. Contains F m ⊎ (m ≡ x)) clause x (All-weaker (Contains F) (λ m. Contains F m ⊎ (m ≡ x)) (λ m h. inl h) clause a) (inr refl);
}

pub outside_stays : (F clause : List (Signed ℕ)) (x y : Signed ℕ) → IsOnlyOutside F clause y → Contains F x ⊎ (x ≡ y) → IsOnlyOutside F (clause ++ x ∷ []) y
outside_stays F clause x y o h = record {
  here = Contains-append_left clause (x ∷ []) y o.here;
  outside = o.outside;
  others = All-push (λ m. Contains F m ⊎ (m ≡ y)) clause x o.others h;
}

pub no_outside : (F clause : List (Signed ℕ)) → All (Contains F) clause → (l : Signed ℕ) → IsOnlyOutside F clause l → ⊥
no_outside F clause a l o = o.outside (All-contains (Contains F) clause l a o.here)

pub two_outside : (F clause : List (Signed ℕ)) (i : ℕ) (d y : Signed ℕ) → i < length clause → IsOnlyOutside F (take i clause) y → (Contains F (get_or clause i d) → ⊥) → (y ≡ get_or clause i d → ⊥) → (l : Signed ℕ) → IsOnlyOutside F clause l → ⊥
two_outside F clause i d y h o n m l p =
    let x = get_or clause i d in
    let at_x : Contains clause x = Contains-get_or clause i d h in
    let at_y : Contains clause y = Contains-take clause i y o.here in
    let x_is : x ≡ l = elim (All-contains (λ m. Contains F m ⊎ (m ≡ l)) clause x p.others at_x) [ inl c ↦ absurd (n c) | inr e ↦ e ] in
    let y_is : y ≡ l = elim (All-contains (λ m. Contains F m ⊎ (m ≡ l)) clause y p.others at_y) [ inl c ↦ absurd (o.outside c) | inr e ↦ e ] in
    m (y_is ∙ sym x_is)
  where
    Contains-take : (xs : List (Signed ℕ)) (k : ℕ) (z : Signed ℕ) → Contains (take k xs) z → Contains xs z
    Contains-take xs k z c = subst (λ ys. Contains ys z) (take-append-drop k xs) (Contains-append_left (take k xs) (drop k xs) z c)

pub with_mark_room : (m : Marked) (l : Signed ℕ) → room (with_mark m l) ≡ room m
with_mark_room m l = by_sign l.positive
  where
    by_sign : (p : Bool) → length (cond p (set m.positive l.atom true) m.positive) ≡ length m.positive
    by_sign true = length-set m.positive l.atom true
    by_sign false = refl
