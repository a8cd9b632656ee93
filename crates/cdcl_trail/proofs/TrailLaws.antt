-- What each call keeps of a trail.
use Rattle.std.proofs.Common.{◌≡◌, ◌≢◌, ℕ, suc, zero, ◌+◌, ◌<◌, ◌≤◌, Bool, true, false, not, cond, inl, inr, List, [], ◌∷◌, length, Option, Some, None, refl, sym, ap, ◌∙◌, subst, arith}
use Rattle.std.specs.Prelude.{All, Contains, filter, ◌==◌, nat_le}
use Rattle.std.specs.Option.{option_map}
use Rattle.std.specs.Bool.{beq}
use Rattle.std.proofs.lemmas.List.Elements.{All-nil, All-cons, All-push, All-weaker, All-contains, All-filter, Contains-push, Contains-append_left, filter_passes}
use Rattle.std.proofs.lemmas.List.Kept.{AllPairs-filter}
use Rattle.std.proofs.lemmas.List.Quantifiers.{all_pairs_push}
use Rattle.std.proofs.lemmas.List.Sums.{length-filter, count_by-le-length}
use Rattle.std.proofs.lemmas.Option.{none-some}
use Rattle.std.proofs.lemmas.Bool.{cases_eq, leb-true, le-leb}
use Rattle.std.proofs.lemmas.Bool.Decides.{nat_tests}
use Rattle.inst_logic.specs.declared.signed.Signed.{Signed}
use Rattle.inst_logic.proofs.Items.{contains_here, contains_there}
use Rattle.cdcl_trail.specs.declared.entry.Entry.{Entry}
use Rattle.cdcl_trail.specs.Trail.{Trail, IsTrail, IsUnset, IsDecision, value_of, level_of, reason_of, with_decision, with_implied, entries_up_to}
use Rattle.cdcl_trail.specs.Values.{found}

-- what the first entry of an atom says
abbrev pub sign_of : Signed ℕ → Entry → Bool
sign_of l e = cond e.lit.positive l.positive (not l.positive)

pub value_found : (es : List Entry) (l : Signed ℕ) → value_of es l ≡ option_map (sign_of l) (found es l.atom)
value_found [] l = refl
value_found (e ∷ es) l = by_test (e.lit.atom == l.atom) refl (value_found es l)
  where
    by_test : (b : Bool) → (e.lit.atom == l.atom) ≡ b → value_of es l ≡ option_map (sign_of l) (found es l.atom) → value_of (e ∷ es) l ≡ option_map (sign_of l) (found (e ∷ es) l.atom)
    by_test true t rest = rw t refl
    by_test false t rest = rw t rest

pub level_found : (es : List Entry) (a : ℕ) → level_of es a ≡ option_map (λ (e : Entry). e.level) (found es a)
level_found [] a = refl
level_found (e ∷ es) a = by_test (e.lit.atom == a) refl (level_found es a)
  where
    by_test : (b : Bool) → (e.lit.atom == a) ≡ b → level_of es a ≡ option_map (λ (x : Entry). x.level) (found es a) → level_of (e ∷ es) a ≡ option_map (λ (x : Entry). x.level) (found (e ∷ es) a)
    by_test true t rest = rw t refl
    by_test false t rest = rw t rest

abbrev pub reason_in : Option Entry → Option ℕ
reason_in None = None
reason_in (Some e) = e.reason

pub reason_found : (es : List Entry) (a : ℕ) → reason_of es a ≡ reason_in (found es a)
reason_found [] a = refl
reason_found (e ∷ es) a = by_test (e.lit.atom == a) refl (reason_found es a)
  where
    by_test : (b : Bool) → (e.lit.atom == a) ≡ b → reason_of es a ≡ reason_in (found es a) → reason_of (e ∷ es) a ≡ reason_in (found (e ∷ es) a)
    by_test true t rest = rw t refl
    by_test false t rest = rw t rest

pub sign_equal : (p q : Bool) → beq p q ≡ cond p q (not q)
sign_equal true true = refl
sign_equal true false = refl
sign_equal false true = refl
sign_equal false false = refl

-- a trail of the fields
abbrev pub trail_of : ℕ → ℕ → List Entry → Bool → Trail
trail_of atoms level entries spent = record { atoms = atoms; level = level; entries = entries; spent = spent }

pub same_trail : (t : Trail) (atoms : ℕ) (entries : List Entry) → IsTrail t → atoms ≡ t.atoms → entries ≡ t.entries → IsTrail (trail_of atoms t.level entries t.spent)
same_trail t atoms entries v same_atoms same =
    subst (λ es. IsTrail (trail_of atoms t.level es t.spent)) (sym same) (subst (λ n. IsTrail (trail_of n t.level t.entries t.spent)) (sym same_atoms) v)

pub grown : (t : Trail) (atoms : ℕ) (entries : List Entry) (spent : Bool) → IsTrail t → entries ≡ t.entries → t.atoms ≤ atoms → IsTrail (trail_of atoms t.level entries spent)
grown t atoms entries spent v same up = subst (λ es. IsTrail (trail_of atoms t.level es spent)) (sym same) (record {
  atoms_below = All-weaker (λ e. e.lit.atom < t.atoms) (λ e. e.lit.atom < atoms) (λ e h. omega (arith, h, up)) t.entries v.atoms_below;
  once = v.once;
  rising = v.rising;
  levels = v.levels;
  decided = v.decided;
  first = v.first;
  above = v.above;
})

pub decided : (t : Trail) (l : Signed ℕ) → IsTrail t → l.atom < t.atoms → IsUnset t.entries l.atom → IsTrail (with_decision t l)
decided t l v low unset =
    let e : Entry = record { lit = l; level = t.level + 1; reason = None } in
    record {
      atoms_below = All-push (λ x. x.lit.atom < t.atoms) t.entries e v.atoms_below low;
      once = all_pairs_push (λ a b. a.lit.atom ≢ b.lit.atom) t.entries e v.once unset;
      rising = all_pairs_push (λ a b. a.level ≤ b.level) t.entries e v.rising (All-weaker (λ x. x.level ≤ t.level) (λ x. x.level ≤ t.level + 1) (λ x h. omega (arith, h)) t.entries v.levels);
      levels = All-push (λ x. x.level ≤ t.level + 1) t.entries e (All-weaker (λ x. x.level ≤ t.level) (λ x. x.level ≤ t.level + 1) (λ x h. omega (arith, h)) t.entries v.levels) (omega arith);
      decided = λ k p q. elim (cases_eq k (t.level + 1)) [
        | inl same ↦ (e, Contains-push t.entries e, sym same, refl)
        | inr other ↦ let h = v.decided k p (omega (arith, q, other)) in (h.0, Contains-append_left t.entries (e ∷ []) h.0 h.1, h.2, h.3)
      ];
      first = all_pairs_push (λ a b. IsDecision b → a.level < b.level) t.entries e v.first
          (All-weaker (λ x. x.level ≤ t.level) (λ x. IsDecision e → x.level < t.level + 1) (λ x h d. omega (arith, h)) t.entries v.levels);
      above = All-push (λ x. IsDecision x → 0 < x.level) t.entries e v.above (λ d. omega arith);
    }

pub implied : (t : Trail) (l : Signed ℕ) (n : ℕ) → IsTrail t → l.atom < t.atoms → IsUnset t.entries l.atom → IsTrail (with_implied t l n)
implied t l n v low unset =
    let e : Entry = record { lit = l; level = t.level; reason = Some n } in
    record {
      atoms_below = All-push (λ x. x.lit.atom < t.atoms) t.entries e v.atoms_below low;
      once = all_pairs_push (λ a b. a.lit.atom ≢ b.lit.atom) t.entries e v.once unset;
      rising = all_pairs_push (λ a b. a.level ≤ b.level) t.entries e v.rising v.levels;
      levels = All-push (λ x. x.level ≤ t.level) t.entries e v.levels (omega arith);
      decided = λ k p q. let h = v.decided k p q in (h.0, Contains-append_left t.entries (e ∷ []) h.0 h.1, h.2, h.3);
      first = all_pairs_push (λ a b. IsDecision b → a.level < b.level) t.entries e v.first
          (All-weaker (λ x. x.level ≤ t.level) (λ x. IsDecision e → x.level < t.level) (λ x h d. absurd (none-some n (sym d))) t.entries v.levels);
      above = All-push (λ x. IsDecision x → 0 < x.level) t.entries e v.above (λ d. absurd (none-some n (sym d)));
    }

-- an element that passes is one of those that do
contains_filter : {X : Type 0} (p : X → Bool) (xs : List X) → All (λ x. p x ≡ true → Contains (filter p xs) x) xs
contains_filter p [] = All-nil (λ x. p x ≡ true → Contains [] x)
contains_filter {X} p (y ∷ ys) =
    All-cons (λ x. p x ≡ true → Contains (filter p (y ∷ ys)) x) y ys (λ t. rw t (contains_here y (filter p ys)))
    (All-weaker (λ x. p x ≡ true → Contains (filter p ys) x) (λ x. p x ≡ true → Contains (filter p (y ∷ ys)) x) (λ x h t. by_test x (p y) refl (h t)) ys (contains_filter p ys))
  where
    by_test : (x : X) (b : Bool) → p y ≡ b → Contains (filter p ys) x → Contains (filter p (y ∷ ys)) x
    by_test x true t c = rw t (contains_there y x (filter p ys) c)
    by_test x false t c = rw t c

filter_shorter : {X : Type 0} (p : X → Bool) (xs : List X) (x : X) → Contains xs x → p x ≡ false → length (filter p xs) < length xs
filter_shorter p [] x c f = absurd (omega (arith, c.1))
filter_shorter p (y ∷ ys) x (zero, h, same) f =
    let t : p y ≡ false = ap p same ∙ f in
    rw t (omega (arith, length-filter p ys, count_by-le-length p ys))
filter_shorter p (y ∷ ys) x (suc k, h, same) f = by_test (p y) refl (filter_shorter p ys x (k, omega (arith, h), same) f)
  where
    by_test : (b : Bool) → p y ≡ b → length (filter p ys) < length ys → length (filter p (y ∷ ys)) < length (y ∷ ys)
    by_test true t rest = rw t (omega (arith, rest))
    by_test false t rest = rw t (omega (arith, rest))

-- as many levels as entries at most
few_levels : (n : ℕ) (es : List Entry) → ((k : ℕ) → 0 < k → k ≤ n → (e : Entry) × Contains es e × (e.level ≡ k)) → n ≤ length es
few_levels zero es each = omega arith
few_levels (suc n) es each =
    let low : Entry → Bool = λ e. nat_le e.level n in
    let top = each (suc n) (omega arith) (omega arith) in
    let f : nat_le top.0.level n ≡ false = above top.0.level n top.2 in
    let less = filter_shorter low es top.0 top.1 f in
    let rest : n ≤ length (filter low es) = few_levels n (filter low es) (λ k p q.
    let h = each k p (omega (arith, q)) in
    let t : low h.0 ≡ true = le-leb h.0.level n (omega (arith, q, h.2)) in
    (h.0, All-contains (λ x. low x ≡ true → Contains (filter low es) x) es h.0 (contains_filter low es) h.1 t, h.2)) in
    omega (arith, less, rest)
  where
    above : (a b : ℕ) → a ≡ suc b → nat_le a b ≡ false
    above a b e = grind (arith, nat_tests)

pub level_within : (t : Trail) → IsTrail t → t.level ≤ length t.entries
level_within t v = few_levels t.level t.entries (λ k p q. let h = v.decided k p q in (h.0, h.1, h.2))

-- the levels above are taken back
pub back : (t : Trail) (n : ℕ) (entries : List Entry) (atoms : ℕ) (spent : Bool) → IsTrail t → n ≤ t.level → entries ≡ entries_up_to t.entries n → atoms ≡ t.atoms → IsTrail (trail_of atoms n entries spent)
back t n entries atoms spent v h same same_atoms =
    let low : Entry → Bool = λ e. nat_le e.level n in
    subst (λ es. IsTrail (trail_of atoms n es spent)) (sym same) (subst (λ m. IsTrail (trail_of m n (filter low t.entries) spent)) (sym same_atoms) (record {
      atoms_below = All-filter low (λ e. e.lit.atom < t.atoms) t.entries v.atoms_below;
      once = AllPairs-filter (λ a b. a.lit.atom ≢ b.lit.atom) low t.entries v.once;
      rising = AllPairs-filter (λ a b. a.level ≤ b.level) low t.entries v.rising;
      levels = All-weaker (λ e. low e ≡ true) (λ e. e.level ≤ n) (λ e k. leb-true e.level n k) (filter low t.entries) (filter_passes low t.entries);
      decided = λ k p q.
          let d = v.decided k p (omega (arith, q, h)) in
          let passes : low d.0 ≡ true = le-leb d.0.level n (omega (arith, q, d.2)) in
          (d.0, All-contains (λ x. low x ≡ true → Contains (filter low t.entries) x) t.entries d.0 (contains_filter low t.entries) d.1 passes, d.2, d.3);
      first = AllPairs-filter (λ a b. IsDecision b → a.level < b.level) low t.entries v.first;
      above = All-filter low (λ e. IsDecision e → 0 < e.level) t.entries v.above;
    }))
