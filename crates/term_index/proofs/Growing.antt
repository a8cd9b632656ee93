-- The tree with one more edge.
use Rattle.std.proofs.Common.{◌≡◌, ◌≢◌, ◌<◌, ◌≤◌, ◌+◌, ℕ, zero, suc, List, [], ◌∷◌, ◌++◌, length, get_or, Contains, refl, sym, ◌∙◌, ap, subst, arith, inl, inr, ◌⊎◌, Bool, true, false, nat_eq, length-append, append_assoc, Some, position}
use Rattle.std.specs.Prelude.{AllPairs}
use Rattle.std.proofs.Math.ListN.{get_or-append}
use Rattle.std.proofs.Math.Seq.{get_or-append_seam}
use Rattle.std.proofs.lemmas.List.Quantifiers.{position-Some}
use Rattle.std.specs.List.{list_any}
use Rattle.term_bank.proofs.Nodes.{last_or_before}
use Rattle.term_index.specs.declared.label.Label.{Label}
use Rattle.term_index.specs.declared.node.Edge.{Edge}
use Rattle.term_index.specs.Nodes.{Content, no_content}
use Rattle.term_index.specs.Pairs.{Posting}
use Rattle.term_index.specs.Left.{IsGrown, IsIndexed}
use Rattle.term_index.specs.Paths.{PlaceLists, no_edge, edge_at, IsChild, Leads, Spans, Crosses, Holds, Reaches, Exits, content_at, exit_at, place_of, MakeTrie, AreListed, KeepsEdges, IsShort, AreShort}
use Rattle.term_index.proofs.PathLaws.{leads_up, leads_kept}
use Rattle.term_index.proofs.CrossLaws.{crosses_kept, cross_ends}
use Rattle.term_index.proofs.PlaceLaws.{old_place}
use Rattle.std.proofs.lemmas.List.Elements.{Contains-get_or}
use Rattle.term_index.proofs.EdgeLaws.{edge_eq, edge_same}

abbrev pub edge_of : ℕ → Label → Edge
edge_of n l = record { from = n; label = l }

-- the edge that was found
pub found_child : (es : List Edge) (n : ℕ) (l : Label) (k : ℕ) → position (edge_eq (edge_of n l)) es ≡ Some k → IsChild es n l (k + 1)
found_child es n l k h =
    let r = position-Some (edge_eq (edge_of n l)) es k no_edge h in
    record { edge = k; number = refl; within = r.0; is = sym (edge_same (edge_of n l) (get_or es k no_edge) r.1) }

length_pushed : {A : Type 0} (xs : List A) (x : A) → length (xs ++ x ∷ []) ≡ length xs + 1
length_pushed xs x = omega (arith, length-append xs (x ∷ []))

pub child_new : (es : List Edge) (n : ℕ) (l : Label) → IsChild (es ++ edge_of n l ∷ []) n l (length es + 1)
child_new es n l = record { edge = length es; number = refl; within = omega (arith, length_pushed es (edge_of n l)); is = get_or-append_seam es (edge_of n l) [] no_edge }

pub pushed_empty : (ns : List Content) (n : ℕ) → content_at (ns ++ no_content ∷ []) n ≡ content_at ns n
pushed_empty [] zero = refl
pushed_empty [] (suc n) = refl
pushed_empty (x ∷ ns) zero = refl
pushed_empty (x ∷ ns) (suc n) = pushed_empty ns n

-- what is at a node where pairs end
pub holds_within : (ns : List Content) (n : ℕ) (p : Posting) → Holds ns n p → n < length ns
holds_within [] n p h = absurd (omega (arith, h.1))
holds_within (c ∷ ns) zero p h = omega arith
holds_within (c ∷ ns) (suc n) p h = let r = holds_within ns n p h in omega (arith, r)

-- the same exits
pub listed_same : (es : List Edge) (ps : PlaceLists) (ns ms : List Content) → ((n : ℕ) → (content_at ms n).exits ≡ (content_at ns n).exits) → AreListed es ps ns → AreListed es ps ms
listed_same es ps ns ms e a n i w = subst (λ (xs : List ℕ). place_of es ps (record { begin = n; end = get_or xs i 0 }) ≡ Some i) (sym (e n)) (a n i (subst (λ (xs : List ℕ). i < length xs) (e n) w))

pub exits_same : (ns ms : List Content) → ((n : ℕ) → (content_at ms n).exits ≡ (content_at ns n).exits) → (n c : ℕ) → Exits ns n c → Exits ms n c
exits_same ns ms e n c h = subst (λ (xs : List ℕ). Contains xs c) (sym (e n)) h

-- edges to old nodes are old
old_child : (es fs added : List Edge) → fs ≡ es ++ added → (n : ℕ) (l : Label) (c : ℕ) → IsChild fs n l c → c ≤ length es → IsChild es n l c
old_child es fs added e n l c k w =
    let b : k.edge < length es = omega (arith, k.number) in
    record { edge = k.edge; number = k.number; within = b; is = sym (get_or-append es added no_edge k.edge b) ∙ ap (λ xs. edge_at xs k.edge) (sym e) ∙ k.is }

old_leads : (es fs added : List Edge) → fs ≡ es ++ added → ((k : ℕ) → k < length fs → (edge_at fs k).from ≤ k) → (n : ℕ) (ls : List Label) (m : ℕ) → Leads fs n ls m → m ≤ length es → Leads es n ls m
old_leads es fs added e o n [] m h w = h
old_leads es fs added e o n (l ∷ ls) m (c, k, r) w =
    let u = leads_up fs o c ls m r in
    (c, old_child es fs added e n l c k (omega (arith, u)), old_leads es fs added e o c ls m r w)

pub keeps_edges : (es fs added : List Edge) → fs ≡ es ++ added → KeepsEdges es fs
keeps_edges es fs added e n l c h = record {
  edge = h.edge;
  number = h.number;
  within = omega (arith, h.within, ap length e, length-append es added);
  is = ap (λ xs. edge_at xs h.edge) e ∙ get_or-append es added no_edge h.edge h.within ∙ h.is;
}

pub spans_kept : (es fs : List Edge) → KeepsEdges es fs → (n c : ℕ) → Spans es n c → Spans fs n c
spans_kept es fs h n c (ls, l, p) = (ls, leads_kept es fs h n ls c l, p)

pub grown_keeps : (es fs : List Edge) (ns ms : List Content) → IsGrown es ns fs ms → KeepsEdges es fs
grown_keeps es fs ns ms g = keeps_edges es fs g.more.0 g.more.1

-- nothing new
pub grown_none : (es : List Edge) (ns : List Content) → length ns ≡ length es + 1 → IsGrown es ns es ns
grown_none es ns c = record { more = ([], sym (Rattle.std.proofs.Common.append-nil es)); count = c; same = λ n. refl; order = λ h. h; once = λ h. h; short = λ h. h }

-- one new edge after others
pub grown_both : (es fs gs : List Edge) (ns ms os : List Content) → IsGrown es ns fs ms → IsGrown fs ms gs os → IsGrown es ns gs os
grown_both es fs gs ns ms os g h = record {
  more = (g.more.0 ++ h.more.0, h.more.1 ∙ ap (λ xs. xs ++ h.more.0) g.more.1 ∙ append_assoc es g.more.0 h.more.0);
  count = h.count;
  same = λ n. h.same n ∙ g.same n;
  order = λ o. h.order (g.order o);
  once = λ o. h.once (g.once o);
  short = λ o. h.short (g.short o);
}

module _ (es fs : List Edge) (ns ms : List Content) (from : ℕ) (l : Label) (counted : length ns ≡ length es + 1) (w : from < length ns) (new : (c : ℕ) → ¬ (IsChild es from l c)) (e : fs ≡ es ++ edge_of from l ∷ []) where
  grown_edges : length fs ≡ length es + 1
  grown_edges = ap length e ∙ length_pushed es (edge_of from l)

  edge_old : (k : ℕ) → k < length es → edge_at fs k ≡ edge_at es k
  edge_old k h = ap (λ xs. edge_at xs k) e ∙ get_or-append es (edge_of from l ∷ []) no_edge k h

  edge_new : edge_at fs (length es) ≡ edge_of from l
  edge_new = ap (λ xs. edge_at xs (length es)) e ∙ get_or-append_seam es (edge_of from l) [] no_edge

  one_order : ((k : ℕ) → k < length es → (edge_at es k).from ≤ k) → (k : ℕ) → k < length fs → (edge_at fs k).from ≤ k
  one_order o k h = elim (last_or_before k (length es) (omega (arith, grown_edges))) [
    | inl b ↦ (let q = ap (λ (x : Edge). x.from) (edge_old k b) in omega (arith, o k b))
    | inr s ↦ (let q = ap (λ (x : Edge). x.from) (ap (edge_at fs) s ∙ edge_new) in omega (arith, counted))
  ]

  -- an old edge is not the new one
  apart : (i : ℕ) → i < length es → edge_at es i ≡ edge_of from l → ⊥
  apart i h q = new (i + 1) (record { edge = i; number = refl; within = h; is = q })

  one_once : IsIndexed es → IsIndexed fs
  one_once o i j h k q = elim (last_or_before i (length es) (omega (arith, grown_edges))) [
    | inl b ↦ elim (last_or_before j (length es) (omega (arith, grown_edges))) [
      | inl d ↦ o i j b d (sym (edge_old i b) ∙ q ∙ edge_old j d)
      | inr s ↦ absurd (apart i b (sym (edge_old i b) ∙ q ∙ ap (edge_at fs) s ∙ edge_new))
    ]
    | inr r ↦ elim (last_or_before j (length es) (omega (arith, grown_edges))) [
      | inl d ↦ absurd (apart j d (sym (edge_old j d) ∙ sym q ∙ ap (edge_at fs) r ∙ edge_new))
      | inr s ↦ omega arith
    ]
  ]

  one_short : IsShort l → AreShort es → AreShort fs
  one_short fits o k h = elim (last_or_before k (length es) (omega (arith, grown_edges))) [
    | inl b ↦ subst (λ (x : Edge). IsShort x.label) (sym (edge_old k b)) (o k b)
    | inr s ↦ subst (λ (x : Edge). IsShort x.label) (sym (ap (edge_at fs) s ∙ edge_new)) fits
  ]

  pub grown_one : IsShort l → ms ≡ ns ++ no_content ∷ [] → IsGrown es ns fs ms
  grown_one fits h = record {
    more = (edge_of from l ∷ [], e);
    count = omega (arith, ap length h ∙ length_pushed ns no_content, counted, grown_edges);
    same = λ n. ap (λ xs. content_at xs n) h ∙ pushed_empty ns n;
    order = one_order;
    once = one_once;
    short = one_short fits;
  }

  pub fresh : IsChild fs from l (length ns)
  fresh = subst (λ c. IsChild fs from l c) (sym counted) (subst (λ xs. IsChild xs from l (length es + 1)) (sym e) (child_new es from l))

-- exits to old nodes are old
old_crosses : (es fs added : List Edge) → fs ≡ es ++ added → ((k : ℕ) → k < length fs → (edge_at fs k).from ≤ k) → (n c : ℕ) → Crosses fs n c → c ≤ length es → Crosses es n c
old_crosses es fs added e o zero c (l, h) w = (l, old_child es fs added e 0 l c h w)
old_crosses es fs added e o (suc n) c (ls, l, p) w = (ls, old_leads es fs added e o (suc n) ls c l w, p)

-- the tree with new edges
pub grown_trie : (es fs : List Edge) (ps : PlaceLists) (ns ms : List Content) → 0 < length ns → IsGrown es ns fs ms → MakeTrie es ps ns → MakeTrie fs ps ms
grown_trie es fs ps ns ms some g a = record {
  count = λ _. g.count;
  none = λ z. absurd (omega (arith, g.count));
  order = g.order a.order;
  once = g.once a.once;
  short = g.short a.short;
  listed = listed_same fs ps ns ms same listed;
  exits = λ n c x. crosses_kept es fs kept n c (a.exits n c (exits_same ms ns (λ m. sym (same m)) n c x));
  linked = linked;
  whole = λ n p h. spans_kept es fs kept 0 n (a.whole n p (held n p h));
  pairs_once = λ n. subst (λ (x : Content). AllPairs ◌≢◌ x.pairs) (sym (g.same n)) (a.pairs_once n);
  one_place = λ m n p h k. a.one_place m n p (held m p h) (held n p k);
}
  where
    same : (n : ℕ) → (content_at ms n).exits ≡ (content_at ns n).exits
    same n = ap (λ (x : Content). x.exits) (g.same n)

    kept : KeepsEdges es fs
    kept = grown_keeps es fs ns ms g

    held : (n : ℕ) (p : Posting) → Holds ms n p → Holds ns n p
    held n p h = subst (λ (x : Content). Contains x.pairs p) (g.same n) h

    listed : AreListed fs ps ns
    listed n i w =
        let c = exit_at ns n i in
        let r = cross_ends es a.order n c (a.exits n c (Contains-get_or (content_at ns n).exits i 0 w)) in
        old_place es fs g.more.0 ps (record { begin = n; end = c }) g.more.1 (omega (arith, r.0, r.1)) ∙ a.listed n i w

    linked : (n c : ℕ) → Crosses fs n c → Reaches fs ms c → Exits ms n c
    linked n c k (ls, m, p, l, h) =
        let w = holds_within ns m p (held m p h) in
        let b : m ≤ length es = omega (arith, w, a.count some) in
        let u = leads_up fs (g.order a.order) c ls m l in
        let d : c ≤ length es = omega (arith, u, b) in
        let old = old_leads es fs g.more.0 g.more.1 (g.order a.order) in
        exits_same ns ms same n c (a.linked n c (old_crosses es fs g.more.0 g.more.1 (g.order a.order) n c k d) (ls, m, p, old c ls m l b, held m p h))

-- an edge that passes the test
any_place : (e : Edge) (es : List Edge) → list_any (edge_eq e) es ≡ true → (k : ℕ) × (k < length es) × (edge_eq e (edge_at es k) ≡ true)
any_place e [] h = absurd (cc)
any_place e (x ∷ es) h = by (edge_eq e x) refl (any_place e es)
  where
    by : (b : Bool) → edge_eq e x ≡ b → (list_any (edge_eq e) es ≡ true → (k : ℕ) × (k < length es) × (edge_eq e (edge_at es k) ≡ true))
        → (k : ℕ) × (k < length (x ∷ es)) × (edge_eq e (edge_at (x ∷ es) k) ≡ true)
    by true t rest = (0, omega arith, t)
    by false t rest =
        let g : list_any (edge_eq e) es ≡ true = rw t at h in
        let r = rest g in
        (suc r.0, omega (arith, r.1), r.2)

pub not_any : (es : List Edge) (n : ℕ) (l : Label) → ((c : ℕ) → ¬ (IsChild es n l c)) → list_any (edge_eq (edge_of n l)) es ≡ false
not_any es n l h = by (list_any (edge_eq (edge_of n l)) es) refl
  where
    by : (b : Bool) → list_any (edge_eq (edge_of n l)) es ≡ b → b ≡ false
    by true t = let r = any_place (edge_of n l) es t in absurd (h (r.0 + 1) (record { edge = r.0; number = refl; within = r.1; is = sym (edge_same (edge_of n l) (edge_at es r.0) r.2) }))
    by false t = refl
