-- The pairs of the tree after a change.
use Rattle.std.proofs.Common.{Result, Ok, Err, ◌≡◌, ◌≢◌, ◌<◌, ◌⊎◌, inl, inr, ℕ, suc, List, [], ◌∷◌, ◌++◌, length, Contains, Bool, true, false, refl, sym, ◌∙◌, ap, ap₂, subst, arith, length-append, ◌+◌}
use Rattle.std.specs.Prelude.{AllPairs}
use Rattle.std.proofs.lemmas.List.Elements.{Contains-append_left, Contains-push, Contains-push_cases}
use Rattle.std.proofs.lemmas.List.Quantifiers.{all_pairs_push}
use Rattle.term_bank.specs.Forest.{Forest, tree_at}
use Rattle.term_index.specs.Pairs.{Posting, Adds, Removes}
use Rattle.term_index.specs.declared.node.Edge.{Edge}
use Rattle.term_index.specs.Nodes.{Content, no_content}
use Rattle.term_index.specs.Labels.{labels}
use Rattle.term_index.specs.Numbered.{IsNumbered}
use Rattle.term_index.specs.declared.label.Label.{Label}
use Rattle.term_index.specs.Left.{IsIndexed}
use Rattle.term_index.specs.Paths.{PlaceLists, content_at, Holds, Leads, Spans, Crosses, Exits, MakeTrie, KeepsPairs, KeepsEdges, IsLinked}
use Rattle.term_index.specs.State.{pairs_of, IsStored}
use Rattle.term_index.specs.StateLaws.{held_stored, stored_held}
use Rattle.term_index.proofs.PathLaws.{leads_kept, leads_once}
use Rattle.term_index.proofs.Linking.{same_number}
use Rattle.term_index.proofs.Growing.{listed_same, exits_same, pushed_empty}

-- the same pairs at each node are the same pairs
pub pairs_kept : (ns ms : List Content) → KeepsPairs ns ms → pairs_of ms ≡ pairs_of ns
pairs_kept [] [] h = refl
pairs_kept [] (c ∷ ms) h = ap₂ (λ xs ys. xs ++ ys) (h 0) (pairs_kept [] ms (λ n. h (suc n)))
pairs_kept (c ∷ ns) [] h = ap₂ (λ xs ys. xs ++ ys) (h 0) (pairs_kept ns [] (λ n. h (suc n)))
pairs_kept (c ∷ ns) (d ∷ ms) h = ap₂ (λ xs ys. xs ++ ys) (h 0) (pairs_kept ns ms (λ n. h (suc n)))

-- what was stored is stored in a tree that has grown
pub stored_kept : (f : Forest) (es fs : List Edge) (ns ms : List Content) → KeepsEdges es fs → KeepsPairs ns ms → IsStored f es ns → IsStored f fs ms
stored_kept f es fs ns ms keeps same h n p k =
    let r = h n p (subst (λ xs. Contains xs p) (same n) k) in
    (r.0, leads_kept es fs keeps 0 (labels f (tree_at f p.0)) n r.1, r.2)

-- other pairs at one node
pub record ChangesAt (node : ℕ) (ns ms : List Content) : Type 0 where
  pub len : length ms ≡ length ns
  pub others : (n : ℕ) → ¬ (n ≡ node) → content_at ms n ≡ content_at ns n
  pub exits : (content_at ms node).exits ≡ (content_at ns node).exits

pub changed : {node : ℕ} {ns ms : List Content} → length ms ≡ length ns → ((n : ℕ) → ¬ (n ≡ node) → content_at ms n ≡ content_at ns n) → (content_at ms node).exits ≡ (content_at ns node).exits → ChangesAt node ns ms
changed len others exits = record { len = len; others = others; exits = exits }

module _ (node : ℕ) (ns ms : List Content) (ch : ChangesAt node ns ms) where
  same_exits : (n : ℕ) → (content_at ms n).exits ≡ (content_at ns n).exits
  same_exits n = elim (same_number n node)
      [ inl e ↦ subst (λ m. (content_at ms m).exits ≡ (content_at ns m).exits) (sym e) ch.exits | inr d ↦ ap (λ (c : Content). c.exits) (ch.others n d) ]

  others_held : (n : ℕ) (p : Posting) → ¬ (n ≡ node) → Holds ms n p → Holds ns n p
  others_held n p d h = subst (λ (c : Content). Contains c.pairs p) (ch.others n d) h

  -- pairs that were there, or one more that was nowhere, at a node to which all exits are listed
  pub changed_trie : (es : List Edge) (ps : PlaceLists) → MakeTrie es ps ns → AllPairs ◌≢◌ (content_at ms node).pairs → ((p : Posting) → Holds ms node p → (Holds ns node p) ⊎ ((n : ℕ) → ¬ (Holds ns n p)))
      → (IsLinked es ns node × Spans es 0 node) ⊎ ((p : Posting) → Holds ms node p → Holds ns node p) → MakeTrie es ps ms
  changed_trie es ps a once from way = record {
    count = λ h. ch.len ∙ a.count (omega (arith, ch.len));
    none = λ h. a.none (omega (arith, ch.len));
    order = a.order;
    once = a.once;
    short = a.short;
    listed = listed_same es ps ns ms same_exits a.listed;
    exits = λ n c x. a.exits n c (exits_same ms ns (λ i. sym (same_exits i)) n c x);
    linked = λ n c k (ls, m, p, l, h). exits_same ns ms same_exits n c (linked n c k ls m p l h);
    whole = whole;
    pairs_once = λ n. elim (same_number n node)
        [ inl e ↦ subst (λ m. AllPairs ◌≢◌ (content_at ms m).pairs) (sym e) once | inr d ↦ subst (λ (c : Content). AllPairs ◌≢◌ c.pairs) (sym (ch.others n d)) (a.pairs_once n) ];
    one_place = place;
  }
    where
      apart : (n : ℕ) (p : Posting) → ¬ (n ≡ node) → Holds ms node p → Holds ms n p → ⊥
      apart n p d h k = elim (from p h) [ inl j ↦ d (a.one_place n node p (others_held n p d k) j) | inr j ↦ j n (others_held n p d k) ]

      linked : (n c : ℕ) → Crosses es n c → (ls : List Label) (m : ℕ) (p : Posting) → Leads es c ls m → Holds ms m p → Exits ns n c
      linked n c k ls m p l h = elim (same_number m node) [
        | inl e ↦ elim way [
          | inl up ↦ up.0 n c ls k (subst (λ x. Leads es c ls x) e l)
          | inr f ↦ a.linked n c k (ls, node, p, subst (λ x. Leads es c ls x) e l, f p (subst (λ x. Holds ms x p) e h))
        ]
        | inr d ↦ a.linked n c k (ls, m, p, l, others_held m p d h)
      ]

      whole : (n : ℕ) (p : Posting) → Holds ms n p → Spans es 0 n
      whole n p h = elim (same_number n node) [
        | inl e ↦ subst (λ x. Spans es 0 x) (sym e) (elim way [ inl up ↦ up.1 | inr f ↦ a.whole node p (f p (subst (λ x. Holds ms x p) e h)) ])
        | inr d ↦ a.whole n p (others_held n p d h)
      ]

      place : (m n : ℕ) (p : Posting) → Holds ms m p → Holds ms n p → m ≡ n
      place m n p h k = elim (same_number m node) [
        | inl e ↦ elim (same_number n node)
            [ inl i ↦ e ∙ sym i | inr i ↦ absurd (apart n p i (subst (λ x. Holds ms x p) e h) k) ]
        | inr d ↦ elim (same_number n node)
            [ inl i ↦ absurd (apart m p d (subst (λ x. Holds ms x p) i k) h) | inr i ↦ a.one_place m n p (others_held m p d h) (others_held n p i k) ]
      ]

  held_back : (n : ℕ) (p : Posting) → ¬ (n ≡ node) → Holds ns n p → Holds ms n p
  held_back n p d h = subst (λ (c : Content). Contains c.pairs p) (sym (ch.others n d)) h

-- one more pair at a node
module _ (node : ℕ) (ns ms : List Content) (ch : ChangesAt node ns ms) (p : Posting) (more : (content_at ms node).pairs ≡ (content_at ns node).pairs ++ p ∷ []) (absent : ¬ (Contains (pairs_of ns) p)) where
  put_cases : (q : Posting) → Holds ms node q → (Holds ns node q) ⊎ (p ≡ q)
  put_cases q h = Contains-push_cases (content_at ns node).pairs p q (subst (λ xs. Contains xs q) more h)

  pub put_trie : (es : List Edge) (ps : PlaceLists) → MakeTrie es ps ns → IsLinked es ns node → Spans es 0 node → MakeTrie es ps ms
  put_trie es ps a up root = changed_trie node ns ms ch es ps a
      (subst (AllPairs ◌≢◌) (sym more) (all_pairs_push ◌≢◌ (content_at ns node).pairs p (a.pairs_once node)
      (λ k d h e. absent (held_stored ns node p (k, h, Rattle.std.proofs.lemmas.List.get_or_default (content_at ns node).pairs k p d h ∙ e)))))
      (λ q h. elim (put_cases q h) [ inl k ↦ inl k | inr e ↦ inr (λ n j. absent (held_stored ns n p (subst (Holds ns n) (sym e) j))) ])
      (inl (up, root))

  pub put_adds : Adds p (pairs_of ns) (pairs_of ms)
  put_adds q = (to, from)
    where
      to : Contains (pairs_of ms) q → (q ≡ p) ⊎ Contains (pairs_of ns) q
      to h = let r = stored_held ms q h in
          elim (same_number r.0 node) [
            | inl e ↦ elim (put_cases q (subst (λ n. Holds ms n q) e r.2)) [ inl k ↦ inr (held_stored ns node q k) | inr i ↦ inl (sym i) ]
            | inr d ↦ inr (held_stored ns r.0 q (others_held node ns ms ch r.0 q d r.2))
          ]

      from : (q ≡ p) ⊎ Contains (pairs_of ns) q → Contains (pairs_of ms) q
      from (inl e) = held_stored ms node q (subst (λ xs. Contains xs q) (sym more) (subst (Contains ((content_at ns node).pairs ++ p ∷ [])) (sym e) (Contains-push (content_at ns node).pairs p)))
      from (inr h) = let r = stored_held ns q h in
          elim (same_number r.0 node) [
            | inl e ↦ held_stored ms node q (subst (λ xs. Contains xs q) (sym more) (Contains-append_left (content_at ns node).pairs (p ∷ []) q (subst (λ n. Holds ns n q) e r.2)))
            | inr d ↦ held_stored ms r.0 q (held_back node ns ms ch r.0 q d r.2)
          ]

  pub put_stored : (f : Forest) (es : List Edge) → p.0 < length f.trees → Leads es 0 (labels f (tree_at f p.0)) node → IsNumbered f (tree_at f p.0) → IsStored f es ns → IsStored f es ms
  put_stored f es w leads num h n q k = elim (same_number n node) [
    | inl e ↦ elim (put_cases q (subst (λ m. Holds ms m q) e k)) [
      | inl j ↦ subst (λ m. (q.0 < length f.trees) × Leads es 0 (labels f (tree_at f q.0)) m × IsNumbered f (tree_at f q.0)) (sym e) (h node q j)
      | inr i ↦ subst (λ m. (q.0 < length f.trees) × Leads es 0 (labels f (tree_at f q.0)) m × IsNumbered f (tree_at f q.0)) (sym e)
          (subst (λ (x : Posting). (x.0 < length f.trees) × Leads es 0 (labels f (tree_at f x.0)) node × IsNumbered f (tree_at f x.0)) i (w, leads, num))
    ]
    | inr d ↦ h n q (others_held node ns ms ch n q d k)
  ]

-- one pair less at a node
module _ (node : ℕ) (ns ms : List Content) (ch : ChangesAt node ns ms) (p : Posting) (less : Removes p (content_at ns node).pairs (content_at ms node).pairs) where
  pub take_trie : (es : List Edge) (ps : PlaceLists) → MakeTrie es ps ns → AllPairs ◌≢◌ (content_at ms node).pairs → MakeTrie es ps ms
  take_trie es ps a once = changed_trie node ns ms ch es ps a once (λ q h. inl ((less.1 q).0 h).0) (inr (λ q h. ((less.1 q).0 h).0))

  pub take_stored : (f : Forest) (es : List Edge) → IsStored f es ns → IsStored f es ms
  take_stored f es h n q k = elim (same_number n node)
      [ inl e ↦ h n q (subst (λ m. Holds ns m q) (sym e) ((less.1 q).0 (subst (λ m. Holds ms m q) e k)).0) | inr d ↦ h n q (others_held node ns ms ch n q d k) ]

  pub take_removes : (es : List Edge) (ps : PlaceLists) → MakeTrie es ps ns → Removes p (pairs_of ns) (pairs_of ms)
  take_removes es ps a = (held_stored ns node p less.0, λ q. (to q, from q))
    where
      to : (q : Posting) → Contains (pairs_of ms) q → Contains (pairs_of ns) q × ¬ (q ≡ p)
      to q h = let r = stored_held ms q h in
          elim (same_number r.0 node) [
            | inl e ↦ (let k = (less.1 q).0 (subst (λ n. Holds ms n q) e r.2) in (held_stored ns node q k.0, k.1))
            | inr d ↦ (let k = others_held node ns ms ch r.0 q d r.2 in (held_stored ns r.0 q k, λ e. d (a.one_place r.0 node q k (subst (Holds ns node) (sym e) less.0))))
          ]

      from : (q : Posting) → Contains (pairs_of ns) q × ¬ (q ≡ p) → Contains (pairs_of ms) q
      from q h = let r = stored_held ns q h.0 in
          elim (same_number r.0 node)
          [ inl e ↦ held_stored ms node q ((less.1 q).1 (subst (λ n. Holds ns n q) e r.2, h.1)) | inr d ↦ held_stored ms r.0 q (held_back node ns ms ch r.0 q d r.2) ]

-- a pair that is not at the node of its atom is nowhere
pub absent_there : (f : Forest) (es : List Edge) (ns : List Content) → IsIndexed es → IsStored f es ns → (p : Posting) (node : ℕ) → Leads es 0 (labels f (tree_at f p.0)) node → ¬ (Holds ns node p) → ¬ (Contains (pairs_of ns) p)
absent_there f es ns once h p node leads gone c =
    let r = stored_held ns p c in
    let k = h r.0 p r.2 in
    let e = leads_once es once 0 (labels f (tree_at f p.0)) r.0 node k.1 leads in
    gone (subst (λ n. Holds ns n p) e r.2)

-- and one whose atom leads nowhere is nowhere
pub absent_nowhere : (f : Forest) (es : List Edge) (ns : List Content) → IsStored f es ns → (p : Posting) → ((n : ℕ) → ¬ (Leads es 0 (labels f (tree_at f p.0)) n)) → ¬ (Contains (pairs_of ns) p)
absent_nowhere f es ns h p nowhere c = let r = stored_held ns p c in nowhere r.0 (h r.0 p r.2).1

-- a root in an empty tree
pub rooted_trie : (es : List Edge) (ps : PlaceLists) (ns ms : List Content) → length ns ≡ 0 → ms ≡ ns ++ no_content ∷ [] → MakeTrie es ps ns → MakeTrie es ps ms
rooted_trie es ps ns ms z e a = record {
  count = λ h. omega (arith, a.none z, len);
  none = λ h. absurd (omega (arith, len));
  order = a.order;
  once = a.once;
  short = a.short;
  listed = listed_same es ps ns ms (λ n. ap (λ (c : Content). c.exits) (same n)) a.listed;
  exits = λ n c x. a.exits n c (exits_same ms ns (λ i. ap (λ (y : Content). y.exits) (sym (same i))) n c x);
  linked = λ n c k (ls, m, p, l, h). exits_same ns ms (λ i. ap (λ (x : Content). x.exits) (same i)) n c (a.linked n c k (ls, m, p, l, held m p h));
  whole = λ n p h. a.whole n p (held n p h);
  pairs_once = λ n. subst (λ (c : Content). AllPairs ◌≢◌ c.pairs) (sym (same n)) (a.pairs_once n);
  one_place = λ m n p h k. a.one_place m n p (held m p h) (held n p k);
}
  where
    same : (n : ℕ) → content_at ms n ≡ content_at ns n
    same n = ap (λ xs. content_at xs n) e ∙ pushed_empty ns n

    len : length ms ≡ 1
    len = ap length e ∙ length-append ns (no_content ∷ []) ∙ ap (λ n. n + 1) z

    held : (n : ℕ) (p : Posting) → Holds ms n p → Holds ns n p
    held n p h = subst (λ (c : Content). Contains c.pairs p) (same n) h

pub rooted_pairs : (ns ms : List Content) → ms ≡ ns ++ no_content ∷ [] → KeepsPairs ns ms
rooted_pairs ns ms e n = ap (λ (c : Content). c.pairs) (ap (λ xs. content_at xs n) e ∙ pushed_empty ns n)

pub on_err : {T E : Type 0} (P : Type 0) (r : Result T E) → P → Rattle.std.specs.Result.OnErr r P
on_err P (Ok x) p = tt
on_err P (Err e) p = p

pub held_pairs : (node : ℕ) (ns ms : List Content) → ((n : ℕ) → ¬ (n ≡ node) → content_at ms n ≡ content_at ns n) → (content_at ms node).pairs ≡ (content_at ns node).pairs → KeepsPairs ns ms
held_pairs node ns ms others same n = elim (same_number n node)
    [ inl e ↦ subst (λ m. (content_at ms m).pairs ≡ (content_at ns m).pairs) (sym e) same | inr d ↦ ap (λ (c : Content). c.pairs) (others n d) ]

-- what was taken or was not there
module _ (node : ℕ) (ns ms : List Content) (ch : ChangesAt node ns ms) (p : Posting) (r : Bool) (there : r ≡ true → Removes p (content_at ns node).pairs (content_at ms node).pairs)
    (absent : r ≡ false → (¬ (Contains (content_at ns node).pairs p)) × ((content_at ms node).pairs ≡ (content_at ns node).pairs)) where
  same_pairs : r ≡ false → KeepsPairs ns ms
  same_pairs e = held_pairs node ns ms ch.others (absent e).1

  pub taken_trie : (es : List Edge) (ps : PlaceLists) → MakeTrie es ps ns → AllPairs ◌≢◌ (content_at ms node).pairs → MakeTrie es ps ms
  taken_trie es ps a once = by r refl
    where
      by : (b : Bool) → r ≡ b → MakeTrie es ps ms
      by true e = take_trie node ns ms ch p (there e) es ps a once
      by false e = changed_trie node ns ms ch es ps a once (λ q h. inl (subst (λ xs. Contains xs q) (absent e).1 h)) (inr (λ q h. subst (λ xs. Contains xs q) (absent e).1 h))

  pub taken_stored : (f : Forest) (es : List Edge) → IsStored f es ns → IsStored f es ms
  taken_stored f es h = by r refl
    where
      by : (b : Bool) → r ≡ b → IsStored f es ms
      by true e = take_stored node ns ms ch p (there e) f es h
      by false e = stored_kept f es es ns ms (λ n l c k. k) (same_pairs e) h

  pub taken_removes : (es : List Edge) (ps : PlaceLists) → MakeTrie es ps ns → r ≡ true → Removes p (pairs_of ns) (pairs_of ms)
  taken_removes es ps a e = take_removes node ns ms ch p (there e) es ps a

  pub taken_absent : (f : Forest) (es : List Edge) → IsIndexed es → IsStored f es ns → Leads es 0 (labels f (tree_at f p.0)) node → r ≡ false → (¬ (Contains (pairs_of ns) p)) × (pairs_of ms ≡ pairs_of ns)
  taken_absent f es once h leads e = (absent_there f es ns once h p node leads (absent e).0, pairs_kept ns ms (same_pairs e))

pub on_ok_at : {T E : Type 0} (P : Type 0) (r : Result T E) → Rattle.std.specs.Result.is_err r ≡ false → Rattle.std.specs.Result.OnOk r P → P
on_ok_at P (Ok x) e p = p
on_ok_at P (Err d) e p = absurd (cc)
