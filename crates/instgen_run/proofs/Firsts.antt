-- One more entry in the map and in the index of first literals.
use Rattle.std.proofs.Common.{◌≡◌, ℕ, zero, suc, ◌+◌, ◌<◌, ◌≤◌, List, [], ◌∷◌, ◌++◌, ◌⊎◌, inl, inr, refl, sym, ap, ◌∙◌, subst as transport, length, length-append, arith, Contains, Bool, true, false, cond, Some, None, Decides}
use Rattle.std.specs.Prelude.{slice_get}
use Rattle.std.specs.Cmp.Lexicographic.{pointwise, pointwise_decides}
use Rattle.indexmap.specs.IndexMap.{insert_entry}
use Rattle.inst_logic.specs.declared.signed.Signed.{Signed}
use Rattle.inst_logic.proofs.ShownLaws.{slice_get_append, slice_get_contains}
use Rattle.inst_calculus.proofs.Membership.{◌∈◌, contains_in, all_in}
use Rattle.engine_laws.proofs.Lists.{slice_get_last}
use Rattle.inst_calculus.proofs.Items.{same_item}
use Rattle.term_index.specs.Pairs.{Posting, Adds}
use Rattle.cert_values.specs.declared.member.Origin.{Origin}
use Rattle.term_bank.specs.Forest.{Forest, Extends, IsClauseOf, is_ground, tree_at}
use Rattle.clause_form.proofs.Ids.{head_id}
use Rattle.instgen_run.specs.declared.entries.Entries.{Entries}
use Rattle.instgen_run.specs.Clauses.{Item, AreEntries, AreFirsts, IsUnit}

-- an item of a list with one more is one of the list, or the last
pub last_or_before : {X : Type 0} (xs : List X) (x : X) (i : ℕ) (y : X) → slice_get (xs ++ x ∷ []) i ≡ Some y → (slice_get xs i ≡ Some y) ⊎ ((i ≡ length xs) × (y ≡ x))
last_or_before [] x zero y e = inr (refl, sym (same_item (Some x) x y refl e))
last_or_before [] x (suc i) y e = absurd cc
last_or_before (z ∷ xs) x zero y e = inl e
last_or_before (z ∷ xs) x (suc i) y e = elim (last_or_before xs x i y e) [ inl p ↦ inl p | inr p ↦ inr (ap suc p.0, p.1) ]

no_items : {X : Type 0} (xs : List X) → slice_get xs 0 ≡ None → xs ≡ []
no_items [] e = refl
no_items (x ∷ xs) e = absurd cc

not_empty : (c : List (Signed ℕ)) (l : Signed ℕ) → slice_get c 0 ≡ Some l → ¬ (c ≡ [])
not_empty c l at e = let t : None ≡ Some l = ap (λ (xs : List (Signed ℕ)). slice_get xs 0) (sym e) ∙ at in cc

same_first : (c : List (Signed ℕ)) (l k : Signed ℕ) → slice_get c 0 ≡ Some l → slice_get c 0 ≡ Some k → l ≡ k
same_first c l k at q = same_item (slice_get c 0) l k at q

pub alone : (c : List (Signed ℕ)) (l : Signed ℕ) → length c ≡ 1 → slice_get c 0 ≡ Some l → c ≡ l ∷ []
alone [] l e at = absurd cc
alone (k ∷ []) l e at = let q : k ≡ l = same_item (Some k) k l refl at in ap (λ x. x ∷ []) q
alone (k ∷ m ∷ c) l e at = absurd (omega arith)

module _ {I C : Type 0} (pairs : I → List Posting) where
  -- a shorter entry is a unit, or in the index
  abbrev IsFound : Entries I C → List (Signed ℕ) → Signed ℕ → ℕ → Type 0
  IsFound n d l k = IsUnit n.bank d l ⊎ Contains (pairs n.first) (l.atom, k)

  -- what one more clause changes
  record IsOneMore (n m : Entries I C) (es : List Item) (c : List (Signed ℕ)) : Type 0 where
    longest : m.longest ≡ n.longest
    short : length c ≤ n.longest
    kept : (d : List (Signed ℕ)) (l : Signed ℕ) (k : ℕ) → IsFound n d l k → IsFound m d l k
    last : (l : Signed ℕ) → slice_get c 0 ≡ Some l → length c < n.longest → IsFound m c l (suc (length es))
    flagged : n.has_empty ≡ true → m.has_empty ≡ true
    none : c ≡ [] → m.has_empty ≡ true
    below : (p : Posting) → Contains (pairs m.first) p → p.1 ≤ length es + 1
    empty : m.has_empty ≡ true → (n.has_empty ≡ true) ⊎ (c ≡ [])

  one_more : (n m : Entries I C) (es : List Item) (c : List (Signed ℕ)) (o : Origin) → AreFirsts pairs n es → IsOneMore n m es c → AreFirsts pairs m (es ++ (c, o) ∷ [])
  one_more n m es c o h g = record {
    bounded = λ i e p. bounded i e (last_or_before es (c, o) i e p);
    first = λ i e k p q r. first i e k q r (last_or_before es (c, o) i e p);
    flagged = λ i e p q. flagged i e q (last_or_before es (c, o) i e p);
    below = λ p i. let k : p.1 ≤ length es + 1 = g.below p i in omega (arith, longer);
    empty = λ t. empty (g.empty t);
  }
    where
      longer : length (es ++ (c, o) ∷ []) ≡ length es + 1
      longer = length-append es ((c, o) ∷ [])

      bounded : (i : ℕ) (e : Item) → (slice_get es i ≡ Some e) ⊎ ((i ≡ length es) × (e ≡ (c, o))) → length e.0 ≤ m.longest
      bounded i e (inl p) = let k = h.bounded i e p in omega (arith, g.longest)
      bounded i e (inr (p, r)) = let k : length e.0 ≡ length c = ap (λ (x : Item). length x.0) r in omega (arith, g.longest, g.short)

      first : (i : ℕ) (e : Item) (k : Signed ℕ) → slice_get e.0 0 ≡ Some k → length e.0 < m.longest → (slice_get es i ≡ Some e) ⊎ ((i ≡ length es) × (e ≡ (c, o))) → IsFound m e.0 k (suc i)
      first i e k q r (inl p) = g.kept e.0 k (suc i) (h.first i e k p q (omega (arith, g.longest)))
      first i e k q r (inr (p, s)) =
          let same : length e.0 ≡ length c = ap (λ (x : Item). length x.0) s in
          transport (λ (x : Item). IsFound m x.0 k (suc i)) (sym s) (transport (λ j. IsFound m c k (suc j)) (sym p) (g.last k (ap (λ (x : Item). slice_get x.0 0) (sym s) ∙ q) (omega (arith, g.longest))))

      flagged : (i : ℕ) (e : Item) → e.0 ≡ [] → (slice_get es i ≡ Some e) ⊎ ((i ≡ length es) × (e ≡ (c, o))) → m.has_empty ≡ true
      flagged i e q (inl p) = g.flagged (h.flagged i e p q)
      flagged i e q (inr (p, r)) = g.none (ap (λ (x : Item). x.0) (sym r) ∙ q)

      empty : (n.has_empty ≡ true) ⊎ (c ≡ []) → (i : ℕ) × (e : Item) × (slice_get (es ++ (c, o) ∷ []) i ≡ Some e) × (e.0 ≡ [])
      empty (inl t) = let (i, e, p, q) = h.empty t in (i, e, slice_get_append es ((c, o) ∷ []) i e p, q)
      empty (inr q) = (length es, (c, o), slice_get_last es (c, o), q)

  -- its first atom goes into the index
  pub first_stored : (n : Entries I C) (j : I) (es : List Item) (c : List (Signed ℕ)) (l : Signed ℕ) (number : ℕ) → AreFirsts pairs n es → length c ≤ n.longest → slice_get c 0 ≡ Some l → number ≡ length es + 1
      → Adds (l.atom, number) (pairs n.first) (pairs j) → (o : Origin) → AreFirsts pairs (record n { first = j }) (es ++ (c, o) ∷ [])
  first_stored n j es c l number h short at e adds o = one_more n (record n { first = j }) es c o h (record {
    longest = refl;
    short = short;
    kept = λ d k i u. kept d k i u;
    last = λ k q r. let same = same_first c l k at q in let m : suc (length es) ≡ number = omega arith in
        inr ((adds (k.atom, suc (length es))).1 (inl (λ x. ((ap (λ (y : Signed ℕ). y.atom) (sym same)) x, m x))));
    flagged = λ t. t;
    none = λ q. absurd (not_empty c l at q);
    below = λ p i. below p ((adds p).0 i);
    empty = λ t. inl t;
  })
    where
      kept : (d : List (Signed ℕ)) (k : Signed ℕ) (i : ℕ) → IsFound n d k i → IsFound (record n { first = j }) d k i
      kept d k i (inl u) = inl u
      kept d k i (inr s) = inr ((adds (k.atom, i)).1 (inr s))

      below : (p : Posting) → (p ≡ (l.atom, number)) ⊎ Contains (pairs n.first) p → p.1 ≤ length es + 1
      below p (inl q) = let m : p.1 ≡ number = ap (λ (x : Posting). x.1) q in omega arith
      below p (inr i) = let m : p.1 ≤ length es = h.below p i in omega arith

  -- units and the longest are not stored
  pub first_left : (n : Entries I C) (es : List Item) (c : List (Signed ℕ)) (l : Signed ℕ) → AreFirsts pairs n es → length c ≤ n.longest → (length c < n.longest → IsUnit n.bank c l) → slice_get c 0 ≡ Some l → (o : Origin)
      → AreFirsts pairs n (es ++ (c, o) ∷ [])
  first_left n es c l h short unit at o = one_more n n es c o h (record {
    longest = refl;
    short = short;
    kept = λ d k i u. u;
    last = λ k q r. transport (λ (x : Signed ℕ). IsFound n c x (suc (length es))) (same_first c l k at q) (inl (unit r));
    flagged = λ t. t;
    none = λ q. absurd (not_empty c l at q);
    below = λ p i. let k : p.1 ≤ length es = h.below p i in omega arith;
    empty = λ t. inl t;
  })

  pub empty_flagged : (n : Entries I C) (es : List Item) (c : List (Signed ℕ)) → AreFirsts pairs n es → length c ≤ n.longest → slice_get c 0 ≡ None → (o : Origin) → AreFirsts pairs (record n { has_empty = true }) (es ++ (c, o) ∷ [])
  empty_flagged n es c h short at o = one_more n (record n { has_empty = true }) es c o h (record {
    longest = refl;
    short = short;
    kept = λ d k i u. u;
    last = λ k q r. let t : None ≡ Some k = sym at ∙ q in absurd cc;
    flagged = λ t. refl;
    none = λ q. refl;
    below = λ p i. let k : p.1 ≤ length es = h.below p i in omega arith;
    empty = λ t. inr (no_items c at);
  })

  -- the map of the clauses is spoken of by itself
  pub firsts_over : (n m : Entries I C) (es : List Item) → m ≡ record n { clauses = m.clauses } → AreFirsts pairs n es → AreFirsts pairs m es
  firsts_over n m es is h = transport (λ (x : Entries I C). AreFirsts pairs x es) (sym is) (record { bounded = h.bounded; first = h.first; flagged = h.flagged; below = h.below; empty = h.empty })

  -- a grown bank
  pub firsts_kept : (n : Entries I C) (g : Forest) (es : List Item) → Extends n.bank g → AreEntries n.bank es → AreFirsts pairs n es → AreFirsts pairs (record n { bank = g }) es
  firsts_kept n g es grown entries h = record {
    bounded = h.bounded;
    first = λ i e l p q r. first i e l p (h.first i e l p q r);
    flagged = h.flagged;
    below = h.below;
    empty = h.empty;
  }
    where
      first : (i : ℕ) (e : Item) (l : Signed ℕ) → slice_get es i ≡ Some e → IsFound n e.0 l (suc i) → IsFound (record n { bank = g }) e.0 l (suc i)
      first i e l p (inl (one, still)) =
          let ids = all_in (λ (x : Item). IsClauseOf n.bank x.0) es entries.ids e (contains_in e es (slice_get_contains es i e p)) in
          let same : tree_at g l.atom ≡ tree_at n.bank l.atom = grown.trees.1 l.atom (head_id n.bank l [] (transport (IsClauseOf n.bank) one ids)) in
          inl (one, ap is_ground same ∙ still)
      first i e l p (inr s) = inr s

-- a new key goes last
pub new_key : (E : Signed ℕ → Signed ℕ → Bool) → ((x y : Signed ℕ) → Decides (E x y) (x ≡ y)) → (es : List Item) (d : List (Signed ℕ)) (o : Origin)
    → ((e : Item) → e ∈ es → ¬ (e.0 ≡ d)) → insert_entry (pointwise E) es d o ≡ es ++ (d, o) ∷ []
new_key E law [] d o n = refl
new_key E law (x ∷ es) d o n = go (pointwise E d x.0) (pointwise_decides law d x.0) (new_key E law es d o (λ e i. n e (inr i)))
  where
    go : (b : Bool) → Decides b (d ≡ x.0) → insert_entry (pointwise E) es d o ≡ es ++ (d, o) ∷ [] → cond b ((x.0, o) ∷ es) (x ∷ insert_entry (pointwise E) es d o) ≡ x ∷ (es ++ (d, o) ∷ [])
    go true k rest = absurd (n x (inl refl) (sym (k.0 refl)))
    go false k rest = ap (λ ys. x ∷ ys) rest
