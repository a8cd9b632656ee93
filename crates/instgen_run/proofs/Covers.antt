-- What the index of first literals finds.
use Rattle.std.proofs.Common.{◌≡◌, ◌↔◌, ℕ, zero, suc, ◌<◌, ◌≤◌, ◌-◌, List, [], ◌∷◌, ◌⊎◌, inl, inr, refl, sym, ap, ◌∙◌, subst as transport, length, arith, All, Contains, Bool, true, false, Some, IsTrue, nat_eq, Decides, ◌||◌}
use Rattle.std.specs.Prelude.{slice_get}
use Rattle.std.specs.Option.{is_some}
use Rattle.std.specs.Map.{lookup, keys_of}
use Rattle.std.specs.List.{list_any}
use Rattle.std.proofs.lemmas.Map.Made.{is_some-lookup}
use Rattle.std.specs.Cmp.Lexicographic.{pointwise, pointwise_decides}
use Rattle.std.proofs.lemmas.Bool.Decides.{Decides-eqb, not_from_Decides}
use Rattle.inst_logic.specs.declared.signed.Signed.{Signed}
use Rattle.inst_logic.specs.Tree.{Tree, var}
use Rattle.inst_logic.specs.Signed.{IsTautology}
use Rattle.inst_logic.specs.Substitution.{Matches, subst_literal}
use Rattle.inst_logic.specs.Clauses.{TreeClause, instance, Subsumes, IsCanonical, canonical_form}
use Rattle.inst_logic.specs.Derivations.{at_number}
use Rattle.inst_calculus.specs.Saturation.{IsCovered, tautology, variant, shorter}
use Rattle.inst_calculus.proofs.Membership.{◌∈◌, contains_in, in_contains, in_all, all_in, in_map, from_map}
use Rattle.inst_calculus.proofs.Clauses.{in_instance, literal_var}
use Rattle.inst_logic.proofs.ShownLaws.{slice_get_contains}
use Rattle.cert_format.proofs.Numbers.{in_slice_get}
use Rattle.term_bank.specs.Forest.{Forest, AreDistinct, IsClauseOf, clause_at, is_ground, literal_tree, tree_at}
use Rattle.term_bank.proofs.Clauses.{same_literal}
use Rattle.clause_form.proofs.Ids.{head_id, same_ids}
use Rattle.clause_form.proofs.Readings.{ground_stays}
use Rattle.term_index.specs.Pairs.{Posting, Gives}
use Rattle.inst_calculus.proofs.Items.{same_item}
use Rattle.cert_values.specs.declared.member.Origin.{Origin}
use Rattle.instgen_run.specs.declared.entries.Entries.{Entries}
use Rattle.instgen_run.specs.Clauses.{Item, AreEntries, AreFirsts, IsEntry, IsNoUnit, IsPast, IsShorterPart, IsUnit, HasShorterPart, clauses_in}

pub at_suc : (es : List Item) (k : ℕ) (e : Item) → ¬ (k ≡ 0) → Some e ≡ slice_get es (k - 1) → at_number es k ≡ Some e
at_suc es zero e n q = absurd (n refl)
at_suc es (suc j) e n q = let p : suc j - 1 ≡ j = omega arith in sym (q ∙ ap (slice_get es) p)

pub shorter_here : (f : Forest) (es : List Item) (d : List (Signed ℕ)) (len k : ℕ) (e : List (Signed ℕ)) (o : Origin) → ¬ (k ≡ 0) → Some (e, o) ≡ slice_get es (k - 1) → length e < len
    → (r : Bool) → IsTrue r ↔ Subsumes (clause_at f e) (clause_at f d) → IsTrue r ↔ IsShorterPart f es d len k
shorter_here f es d len k e o n q l r h =
    let here = at_suc es k (e, o) n q in (
      λ t. record { item = (e, o); item_at = here; shorter = l; within = h.0 t },
      λ s. h.1 (transport (λ (x : Item). Subsumes (clause_at f x.0) (clause_at f d)) (same_item (at_number es k) s.item (e, o) s.item_at here) s.within),
    )

pub not_shorter : (f : Forest) (es : List Item) (d : List (Signed ℕ)) (len k : ℕ) (e : List (Signed ℕ)) (o : Origin) → ¬ (k ≡ 0) → Some (e, o) ≡ slice_get es (k - 1) → ¬ (length e < len) → ¬ IsShorterPart f es d len k
not_shorter f es d len k e o n q l s =
    l (transport (λ (x : Item). length x.0 < len) (same_item (at_number es k) s.item (e, o) s.item_at (at_suc es k (e, o) n q)) s.shorter)

-- Walks

abbrev pub IsPassed : Forest → List Item → List (Signed ℕ) → ℕ → (Posting → Type 0) → (Posting → Type 0) → Type 0
IsPassed f es d len asked comes = (p : Posting) → asked p → comes p ⊎ ¬ IsShorterPart f es d len p.1

pub same_pair : (p q : Posting) → (p ≡ q) ⊎ ¬ (p ≡ q)
same_pair p q = go (nat_eq p.0 q.0) (nat_eq p.1 q.1) (Decides-eqb p.0 q.0) (Decides-eqb p.1 q.1)
  where
    go : (a b : Bool) → Decides a (p.0 ≡ q.0) → Decides b (p.1 ≡ q.1) → (p ≡ q) ⊎ ¬ (p ≡ q)
    go true true d e = inl (λ i. (d.0 refl i, e.0 refl i))
    go false b d e = inr (λ k. not_from_Decides false d refl (ap (λ (x : Posting). x.0) k))
    go true false d e = inr (λ k. not_from_Decides false e refl (ap (λ (x : Posting). x.1) k))

pub passes_on : (f : Forest) (es : List Item) (d : List (Signed ℕ)) (len k : ℕ) (asked before after : Posting → Type 0) → IsPassed f es d len asked before → Gives before k after
    → ¬ IsShorterPart f es d len k → IsPassed f es d len asked after
passes_on f es d len k asked before after h (atom, here, rest) n p a = go (h p a)
  where
    first : before p → (p ≡ (atom, k)) ⊎ ¬ (p ≡ (atom, k)) → after p ⊎ ¬ IsShorterPart f es d len p.1
    first b (inl e) = inr (λ s. n (transport (λ (x : Posting). IsShorterPart f es d len x.1) e s))
    first b (inr m) = inl ((rest p).1 (b, m))

    go : before p ⊎ ¬ IsShorterPart f es d len p.1 → after p ⊎ ¬ IsShorterPart f es d len p.1
    go (inl b) = first b (same_pair p (atom, k))
    go (inr m) = inr m

-- The first literals

-- the first literal of a clause with an instance within d is more general than a literal of d
first_matches : (f : Forest) (m : Signed ℕ) (rest d : List (Signed ℕ)) → Subsumes (clause_at f (m ∷ rest)) (clause_at f d) → (l : Signed ℕ) × (l ∈ d) × Matches (tree_at f m.atom) (tree_at f l.atom)
first_matches f m rest d (s, part) =
    let first : Signed Tree = record { positive = m.positive; atom = tree_at f m.atom } in
    let i = contains_in (subst_literal s first) (clause_at f d) (all_in (Contains (clause_at f d)) (instance s (clause_at f (m ∷ rest))) part (subst_literal s first) (in_instance s first (clause_at f (m ∷ rest)) (inl refl))) in
    let (l, j, e) = from_map (λ (x : Signed ℕ). record { positive = x.positive; atom = tree_at f x.atom }) (subst_literal s first) d i in
    (l, j, (s, ap (λ (x : Signed Tree). x.atom) (sym e)))

-- a literal without variables, alone, that has an instance within d is a literal of d
unit_within : (f : Forest) (m : Signed ℕ) (d : List (Signed ℕ)) → is_ground (tree_at f m.atom) ≡ true → Subsumes (clause_at f (m ∷ [])) (clause_at f d) → (l : Signed ℕ) × (l ∈ d) × (literal_tree f l ≡ literal_tree f m)
unit_within f m d still (s, part) =
    let first : Signed Tree = literal_tree f m in
    let i = contains_in (subst_literal s first) (clause_at f d) (all_in (Contains (clause_at f d)) (instance s (clause_at f (m ∷ []))) part (subst_literal s first) (in_instance s first (clause_at f (m ∷ [])) (inl refl))) in
    let (l, j, e) = from_map (literal_tree f) (subst_literal s first) d i in
    (l, j, e ∙ ap (λ t. record { positive = m.positive; atom = t }) (ground_stays s (tree_at f m.atom) still))

module _ {I C : Type 0} (pairs : I → List Posting) (n : Entries I C) (es : List Item) (d : List (Signed ℕ)) (len : ℕ) where
  pub none_is_shorter : AreFirsts pairs n es → AreDistinct n.bank.trees → AreEntries n.bank es → IsClauseOf n.bank d → len ≤ n.longest → n.has_empty ≡ false → All (IsNoUnit n.bank es) d
      → All (IsPast n.bank (pairs n.first) es d len) d → ¬ HasShorterPart n.bank es d len
  none_is_shorter firsts distinct entries ids within no_empty lacks passed (zero, s) = cc (s.item_at)
  none_is_shorter firsts distinct entries ids within no_empty lacks passed (suc i, s) = go s.item.0 refl
    where
      found : (m : Signed ℕ) (rest : List (Signed ℕ)) → s.item.0 ≡ m ∷ rest → IsUnit n.bank s.item.0 m ⊎ Contains (pairs n.first) (m.atom, suc i) → ⊥
      found m rest e (inl (one, still)) =
          let f = n.bank in
          let (l, j, q) = unit_within f m d still (transport (λ x. Subsumes (clause_at f x) (clause_at f d)) one s.within) in
          let item_ids = all_in (λ (x : Item). IsClauseOf f x.0) es entries.ids s.item (contains_in s.item es (slice_get_contains es i s.item s.item_at)) in
          let same = same_literal f distinct l m (all_in (λ (k : Signed ℕ). k.atom < length f.trees) d ids l j) (head_id f m [] (transport (IsClauseOf f) one item_ids)) q in
          all_in (IsNoUnit f es) d lacks l j (transport (λ (x : Signed ℕ). is_ground (tree_at f x.atom) ≡ true) (sym same) still) (s.item, slice_get_contains es i s.item s.item_at, one ∙ ap (λ x. x ∷ []) (sym same))
      found m rest e (inr stored) =
          let (l, j, h) = first_matches n.bank m rest d (transport (λ x. Subsumes (clause_at n.bank x) (clause_at n.bank d)) e s.within) in
          all_in (IsPast n.bank (pairs n.first) es d len) d passed l j (m.atom, suc i) stored h s

      go : (c : List (Signed ℕ)) → s.item.0 ≡ c → ⊥
      go [] e = let t = firsts.flagged i s.item s.item_at e in cc
      go (m ∷ rest) e = found m rest e (firsts.first i s.item m s.item_at (ap (λ x. slice_get x 0) e) (let k = s.shorter in omega arith))

  -- only the empty clause has fewer literals than one
  pub none_is_so_short : AreFirsts pairs n es → len ≤ 1 → n.has_empty ≡ false → ¬ HasShorterPart n.bank es d len
  none_is_so_short firsts few no_empty (zero, s) = cc (s.item_at)
  none_is_so_short firsts few no_empty (suc i, s) =
      let none : s.item.0 ≡ [] = let k = s.shorter in empty s.item.0 (omega arith) in
      let t = firsts.flagged i s.item s.item_at none in cc
    where
      empty : (c : List (Signed ℕ)) → length c < 1 → c ≡ []
      empty [] k = refl
      empty (l ∷ c) k = absurd (omega arith)

  -- a unit is shorter than a premise with more literals
  pub unit_is_shorter : 1 < len → (l : Signed ℕ) → Contains d l → IsEntry es l → HasShorterPart n.bank es d len
  unit_is_shorter more l j (e, k, one) =
      let f = n.bank in
      let (i, at) = in_slice_get e es (contains_in e es k) in (
        suc i,
        record {
          item = e;
          item_at = at;
          shorter = let q : length e.0 ≡ 1 = ap length one in omega arith;
          within = transport (λ x. Subsumes (clause_at f x) (clause_at f d)) (sym one) (var, in_all (Contains (clause_at f d)) (instance var (clause_at f (l ∷ []))) (λ x i. alone x i));
        },
      )
    where
      alone : (x : Signed Tree) → x ∈ instance var (clause_at n.bank (l ∷ [])) → Contains (clause_at n.bank d) x
      alone x (inl q) = transport (Contains (clause_at n.bank d)) (sym (q ∙ literal_var (literal_tree n.bank l))) (in_contains (literal_tree n.bank l) (clause_at n.bank d) (in_map (literal_tree n.bank) l d (contains_in l d j)))
      alone x (inr i) = absurd i

-- Covered

module _ (f : Forest) (es : List Item) (d : List (Signed ℕ)) (c : TreeClause) where
  abbrev Covered : Type 0
  Covered = IsCovered (clauses_in f es) c (clause_at f d)

  item_in : (e : Item) → Contains es e → Contains (clauses_in f es) (clause_at f e.0)
  item_in e h = in_contains (clause_at f e.0) (clauses_in f es) (in_map (λ (x : Item). clause_at f x.0) e es (contains_in e es h))

  pub covered_by_empty : {I C : Type 0} (pairs : I → List Posting) (n : Entries I C) → AreFirsts pairs n es → n.has_empty ≡ true → 0 < length c → Covered
  covered_by_empty pairs n firsts t l =
      let (i, e, at, none) = firsts.empty t in
      let q : clause_at f e.0 ≡ [] = ap (clause_at f) none in
      shorter (clause_at f e.0) (item_in e (slice_get_contains es i e at)) (let m : length (clause_at f e.0) ≡ 0 = ap length q in omega arith)
      (transport (λ x. Subsumes x (clause_at f d)) (sym q) (var, in_all (Contains (clause_at f d)) [] (λ x i. absurd i)))

  pub covered_by_key : (e : Item) → Contains es e → e.0 ≡ d → Covered
  covered_by_key e h q = variant (clause_at f e.0) (item_in e h) (ap (λ x. canonical_form (clause_at f x)) (sym q))

  pub covered_by_shorter : (len : ℕ) → length c ≡ len → HasShorterPart f es d len → Covered
  covered_by_shorter len q (zero, s) = absurd (cc (s.item_at))
  covered_by_shorter len q (suc i, s) =
      shorter (clause_at f s.item.0) (item_in s.item (slice_get_contains es i s.item s.item_at)) (let l = s.shorter in omega (arith, length_at s.item.0)) s.within
    where
      length_at : (x : List (Signed ℕ)) → length (clause_at f x) ≡ length x
      length_at [] = refl
      length_at (l ∷ x) = ap suc (length_at x)

  -- nothing covers it
  pub not_covered : (len : ℕ) → length c ≡ len → AreDistinct f.trees → AreEntries f es → IsClauseOf f d → IsCanonical (clause_at f d) → ¬ IsTautology (clause_at f d)
      → ((e : Item) → Contains es e → ¬ (e.0 ≡ d)) → ¬ HasShorterPart f es d len → ¬ Covered
  not_covered len q distinct entries within canonical no_tautology no_key none (tautology t) = no_tautology t
  not_covered len q distinct entries within canonical no_tautology no_key none (variant e i v) =
      let (x, j, p) = from_map (λ (x : Item). clause_at f x.0) e es (contains_in e (clauses_in f es) i) in
      no_key x (in_contains x es j) (same_ids f distinct x.0 d (all_in (λ (x : Item). IsClauseOf f x.0) es entries.ids x j) within
      (sym (all_in (λ (x : Item). IsCanonical (clause_at f x.0)) es entries.canonical x j) ∙ ap canonical_form p ∙ sym v ∙ canonical))
  not_covered len q distinct entries within canonical no_tautology no_key none (shorter e i l s) =
      let (x, j, p) = from_map (λ (x : Item). clause_at f x.0) e es (contains_in e (clauses_in f es) i) in
      let (k, at) = in_slice_get x es j in
      none (
        suc k,
        record {
          item = x;
          item_at = at;
          shorter = let m : length (clause_at f x.0) ≡ length e = ap length p in omega (arith, length_at2 x.0);
          within = transport (λ y. Subsumes y (clause_at f d)) (sym p) s;
        },
      )
    where
      length_at2 : (x : List (Signed ℕ)) → length (clause_at f x) ≡ length x
      length_at2 [] = refl
      length_at2 (l ∷ x) = ap suc (length_at2 x)

-- Keys

pub has_key : (E : Signed ℕ → Signed ℕ → Bool) → ((x y : Signed ℕ) → Decides (E x y) (x ≡ y)) → (es : List Item) (d : List (Signed ℕ)) (r : Bool) → r ≡ is_some (lookup (pointwise E d) es)
    → (r ≡ true → (e : Item) × Contains es e × (e.0 ≡ d)) × (r ≡ false → (e : Item) → Contains es e → ¬ (e.0 ≡ d))
has_key E law es d r h = (
  λ t. let (e, i, q) = found es (sym (h ∙ is_some-lookup (pointwise E d) es) ∙ t) in (e, in_contains e es i, q),
  λ t e i q. absent es (sym (h ∙ is_some-lookup (pointwise E d) es) ∙ t) e (contains_in e es i) q,
)
  where
    found : (xs : List Item) → list_any (pointwise E d) (keys_of xs) ≡ true → (e : Item) × (e ∈ xs) × (e.0 ≡ d)
    found [] q = absurd cc
    found (x ∷ xs) q = go (pointwise E d x.0) (pointwise_decides law d x.0) q (found xs)
      where
        go : (b : Bool) → Decides b (d ≡ x.0) → (b || list_any (pointwise E d) (keys_of xs)) ≡ true → (list_any (pointwise E d) (keys_of xs) ≡ true → (e : Item) × (e ∈ xs) × (e.0 ≡ d)) → (e : Item) × (e ∈ (x ∷ xs)) × (e.0 ≡ d)
        go true k p rest = (x, inl refl, sym (k.0 refl))
        go false k p rest = let (e, i, s) = rest p in (e, inr i, s)

    absent : (xs : List Item) → list_any (pointwise E d) (keys_of xs) ≡ false → (e : Item) → e ∈ xs → ¬ (e.0 ≡ d)
    absent [] q e i = absurd i
    absent (x ∷ xs) q e i = go (pointwise E d x.0) (pointwise_decides law d x.0) q i (λ p j. absent xs p e j)
      where
        go : (b : Bool) → Decides b (d ≡ x.0) → (b || list_any (pointwise E d) (keys_of xs)) ≡ false → (e ≡ x) ⊎ (e ∈ xs)
            → (list_any (pointwise E d) (keys_of xs) ≡ false → e ∈ xs → ¬ (e.0 ≡ d)) → ¬ (e.0 ≡ d)
        go true k p j rest = absurd cc
        go false k p (inl s) rest = λ u. not_from_Decides false k refl (sym u ∙ ap (λ (y : Item). y.0) s)
        go false k p (inr j) rest = rest p j

-- no entry covers it but shorter ones
pub covered_or_not : (f : Forest) (es : List Item) (d : List (Signed ℕ)) (len : ℕ) (r : Bool) → AreDistinct f.trees → AreEntries f es → IsClauseOf f d → IsCanonical (clause_at f d)
    → ¬ IsTautology (clause_at f d) → ((e : Item) → Contains es e → ¬ (e.0 ≡ d)) → (r ≡ true → HasShorterPart f es d len) → (r ≡ false → ¬ HasShorterPart f es d len)
    → (c : TreeClause) → length c ≡ len → IsTrue r ↔ IsCovered (clauses_in f es) c (clause_at f d)
covered_or_not f es d len true distinct entries within canonical no_tautology no_key some none c q = (λ t. covered_by_shorter f es d c len q (some refl), λ k. refl)
covered_or_not f es d len false distinct entries within canonical no_tautology no_key some none c q =
    (λ t. absurd cc, λ k. absurd (not_covered f es d c len q distinct entries within canonical no_tautology no_key (none refl) k))
