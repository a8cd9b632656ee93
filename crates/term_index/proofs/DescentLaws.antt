-- An atom on its way down the tree.
use Rattle.std.proofs.Common.{◌≡◌, ◌<◌, ◌≤◌, ◌+◌, ◌-◌, ◌⊎◌, inl, inr, ℕ, zero, suc, List, [], ◌∷◌, ◌++◌, length, map, reverse, get_or, Contains, All, refl, sym, ◌∙◌, ap, subst, arith, append_assoc, length-append}
use Rattle.std.proofs.lemmas.List.{length-map}
use Rattle.std.proofs.lemmas.List.Elements.{All-contains, All-cons, All-nil, Contains-append_left, Contains-push, Contains-push_cases, Contains-get_or}
use Rattle.term_bank.specs.Forest.{Forest, tree_at, arguments_of}
use Rattle.term_index.specs.declared.descent.Open.{Open}
use Rattle.term_index.specs.declared.label.Label.{Label}
use Rattle.term_index.specs.declared.node.Edge.{Edge}
use Rattle.term_index.specs.declared.node.Span.{Span}
use Rattle.term_index.specs.Nodes.{Content}
use Rattle.term_index.specs.Labels.{label_of, arity_of, labels}
use Rattle.term_index.specs.Left.{IsOpen, IsSorted, Begins, IsDescent, AreBelow, Enters, Closes, IsWay, IsIndexed}
use Rattle.term_index.specs.Paths.{IsChild, Leads, Passes, Crosses, Exits, IsLinked, KeepsEdges, edge_at}
use Rattle.term_index.proofs.CopyLaws.{arity_is}
use Rattle.term_index.proofs.LeftLaws.{left_on, ids_on}
use Rattle.term_index.proofs.PathLaws.{leads_append, leads_kept, leads_once, leads_up, one_way, from_root}
use Rattle.term_index.proofs.SpotLaws.{pairs_front, pairs_across}
use Rattle.term_index.proofs.CrossLaws.{span_crosses, crosses_span, crosses_kept, cross_ends}
use Rattle.term_index.proofs.TermLaws.{passes_on, prefix_free}

-- one more
pub closes_more : (first before after : List Open) (last : Open) (old new more : List Span) (node height : ℕ) → before ≡ after ++ last ∷ [] → more ≡ new ++ record { begin = last.begin; end = node } ∷ [] → height ≤ last.height
    → Closes first before old new node height → Closes first after old more node height
closes_more first before after last old new more node height e h w c = record {
  front = (last ∷ c.front.0, c.front.1 ∙ ap (λ xs. xs ++ c.front.0) e ∙ append_assoc after (last ∷ []) c.front.0);
  kept = λ s k. grow s (c.kept s k);
  sound = λ s k. elim (Contains-push_cases new (record { begin = last.begin; end = node }) s (subst (λ xs. Contains xs s) h k)) [ inl x ↦ c.sound s x | inr x ↦ inr (last, there, w, sym x) ];
  all = λ o k. elim (c.all o k) [
    | inl x ↦ elim (Contains-push_cases after last o (subst (λ xs. Contains xs o) e x)) [
      | inl y ↦ inl y
      | inr y ↦ inr (subst (λ (p : Open). Contains more (record { begin = p.begin; end = node })) y (subst (λ xs. Contains xs (record { begin = last.begin; end = node })) (sym h) (Contains-push new (record { begin = last.begin; end = node }))))
    ]
    | inr x ↦ inr (grow (record { begin = o.begin; end = node }) x)
  ];
}
  where
    grow : (s : Span) → Contains new s → Contains more s
    grow s k = subst (λ xs. Contains xs s) (sym h) (Contains-append_left new (record { begin = last.begin; end = node } ∷ []) s k)

    there : Contains first last
    there = subst (λ xs. Contains xs last) (sym c.front.1) (Contains-append_left before c.front.0 last (subst (λ xs. Contains xs last) (sym e) (Contains-push after last)))

pub front_sorted : (xs ys : List Open) (more : List Open) → xs ≡ ys ++ more → IsSorted xs → IsSorted ys
front_sorted xs ys more e h = pairs_front (λ a b. a.height ≤ b.height) ys more (subst IsSorted e h)

-- the last one is the highest
pub below_last : (before after : List Open) (last : Open) (height : ℕ) → before ≡ after ++ last ∷ [] → IsSorted before → last.height < height → AreBelow height before
below_last before after last height e h w k d v =
    let o = get_or before k d in
    elim (Contains-push_cases after last o (subst (λ xs. Contains xs o) e (Contains-get_or before k d v))) [
      | inl x ↦ (let r = pairs_across (λ a b. a.height ≤ b.height) after (last ∷ []) (subst IsSorted e h) o last x (0, omega arith, refl) in omega (arith, r, w))
      | inr x ↦ subst (λ (p : Open). p.height < height) x w
    ]

-- a list that ends with a label is cut at one of its labels
snoc_cases : (done ds : List Label) (x l : Label) (ms : List Label) → done ++ x ∷ [] ≡ ds ++ l ∷ ms → (ds ≡ done) ⊎ ((ks : List Label) × (done ≡ ds ++ l ∷ ks))
snoc_cases [] [] x l ms e = inl refl
snoc_cases [] (d ∷ ds) x l ms e = let t : [] ≡ ds ++ l ∷ ms = cc in let z : 0 ≡ length (ds ++ l ∷ ms) = ap length t in absurd (omega (arith, z, length-append ds (l ∷ ms)))
snoc_cases (y ∷ done) [] x l ms e = let h : y ≡ l = cc in inr (done, ap (λ z. z ∷ done) h)
snoc_cases (y ∷ done) (d ∷ ds) x l ms e =
    let h : y ≡ d = cc in
    let t : done ++ x ∷ [] ≡ ds ++ l ∷ ms = cc in
    elim (snoc_cases done ds x l ms t) [ inl r ↦ inl (λ i. sym h i ∷ r i) | inr r ↦ inr (r.0, λ i. h i ∷ r.1 i) ]

length_reversed : (xs : List ℕ) → length (reverse xs) ≡ length xs
length_reversed xs = Rattle.std.proofs.lemmas.List.length-reverse xs

-- one label further on
module _ (f : Forest) (es : List Edge) (all : List Label) (node next id : ℕ) (rest args : List ℕ) (before after : List Open) (old new : List Span)
    (d : IsDescent f es all node (rest ++ id ∷ []) before old) (low : AreBelow (length rest + 1) before) (child : IsChild es node (label_of f (tree_at f id)) next)
    (is : map (tree_at f) args ≡ arguments_of (tree_at f id)) (smaller : All (λ i. i < id) args)
    (mid : List Open) (near : List Span) (enters : Enters before mid old near node next (length rest)) (sorted_mid : IsSorted mid) (c : Closes mid after near new next (length (rest ++ reverse args))) where
  abbrev here : Open
  here = record { begin = node; height = length rest }

  abbrev label : Label
  label = label_of f (tree_at f id)

  counted : arity_of label ≡ length args
  counted = arity_is f (tree_at f id) ∙ sym (ap length is) ∙ length-map args (tree_at f)

  left_length : length (rest ++ reverse args) ≡ length rest + length args
  left_length = length-append rest (reverse args) ∙ ap (λ n. length rest + n) (length_reversed args)

  old_length : length (rest ++ id ∷ []) ≡ length rest + 1
  old_length = length-append rest (id ∷ [])

  step : (n : ℕ) (ls : List Label) → Leads es n ls node → Leads es n (ls ++ label ∷ []) next
  step n ls h = leads_append es n node next ls (label ∷ []) h (next, child, refl)

  lower : (o : Open) → Contains before o → o.height < length rest + 1
  lower o h = All-contains (λ (p : Open). p.height < length rest + 1) before o low h

  opens_still : (o : Open) → Contains before o → IsOpen es next (length (rest ++ reverse args)) o
  opens_still o x =
      let k = d.opens o x in
      let w = lower o x in
      let n = length rest - o.height in
      let p = passes_on k.2.0 label 1 (length (rest ++ id ∷ []) - o.height) n k.2.2 (omega (arith, old_length, w)) in
      (k.0, omega (arith, left_length, w), (k.2.0 ++ label ∷ [], step o.begin k.2.0 k.2.1, subst (Passes 1 (k.2.0 ++ label ∷ [])) (omega (arith, left_length, counted, w)) p))

  opens_before : (o : Open) → Contains mid o → IsOpen es next (length (rest ++ reverse args)) o
  opens_before o h = elim enters [
    | inl e ↦ opens_still o (subst (λ xs. Contains xs o) e.1 h)
    | inr e ↦ elim (Contains-push_cases before here o (subst (λ xs. Contains xs o) e.1 h)) [
      | inl x ↦ opens_still o x
      | inr x ↦ subst (IsOpen es next (length (rest ++ reverse args))) x (e.0, omega (arith, left_length), (label ∷ [], (next, child, refl), omega (arith, left_length, counted)))
    ]
  ]

  -- what has ended is an exit on the way
  near_closes : (s : Span) → Contains near s → Crosses es s.begin s.end × ((ms : List Label) × Leads es s.end ms next)
  near_closes s h = elim enters [
    | inl e ↦ elim (Contains-push_cases old (record { begin = 0; end = next }) s (subst (λ xs. Contains xs s) e.2 h)) [
      | inl x ↦ before_closes x
      | inr x ↦ subst (λ (y : Span). Crosses es y.begin y.end × ((ms : List Label) × Leads es y.end ms next)) x ((label, subst (λ n. IsChild es n label next) e.0 child), ([], refl))
    ]
    | inr e ↦ before_closes (subst (λ xs. Contains xs s) e.2 h)
  ]
    where
      before_closes : Contains old s → Crosses es s.begin s.end × ((ms : List Label) × Leads es s.end ms next)
      before_closes x = let k = d.closes s x in (k.0, (k.1.0 ++ label ∷ [], step s.end k.1.0 k.1.1))

  open_before : (o : Open) → Contains after o → Contains mid o
  open_before o h = subst (λ xs. Contains xs o) (sym c.front.1) (Contains-append_left after c.front.0 o h)

  begins_on : (b : ℕ) → Begins mid near b → Begins after new b
  begins_on b (inl (e, h)) = inl (e, c.kept (record { begin = b; end = e }) h)
  begins_on b (inr (k, h)) = elim (c.all (record { begin = b; height = k }) h) [ inl x ↦ inr (k, x) | inr x ↦ inl (next, x) ]

  begins_more : (b : ℕ) → Begins before old b → Begins mid near b
  begins_more b (inl (n, h)) = inl (
    n,
    elim enters [
      | inl e ↦ subst (λ xs. Contains xs (record { begin = b; end = n })) (sym e.2) (Contains-append_left old (record { begin = 0; end = next } ∷ []) (record { begin = b; end = n }) h)
      | inr e ↦ subst (λ xs. Contains xs (record { begin = b; end = n })) (sym e.2) h
    ],
  )
  begins_more b (inr (k, h)) = inr (
    k,
    elim enters [
      | inl e ↦ subst (λ xs. Contains xs (record { begin = b; height = k })) (sym e.1) h
      | inr e ↦ subst (λ xs. Contains xs (record { begin = b; height = k })) (sym e.1) (Contains-append_left before (here ∷ []) (record { begin = b; height = k }) h)
    ],
  )

  begins_here : Begins mid near node
  begins_here = elim enters [
    | inl e ↦ inl (
      next,
      subst (λ xs. Contains xs (record { begin = node; end = next })) (sym e.2)
          (subst (λ n. Contains (old ++ record { begin = 0; end = next } ∷ []) (record { begin = n; end = next })) (sym e.0) (Contains-push old (record { begin = 0; end = next }))),
    )
    | inr e ↦ inr (length rest, subst (λ xs. Contains xs here) (sym e.1) (Contains-push before here))
  ]

  pub descent_on : IsDescent f es all next (rest ++ reverse args) after new
  descent_on = record {
    path = d.path ++ label ∷ [];
    leads = step 0 d.path d.leads;
    split = left_on f all d.path id rest args is d.split;
    ids = ids_on f id rest args d.ids smaller;
    opens = λ o h. opens_before o (open_before o h);
    sorted = front_sorted mid after c.front.0 c.front.1 sorted_mid;
    closes = λ s h. elim (c.sound s h) [
      | inl x ↦ near_closes s x
      | inr x ↦ (let k = opens_before x.0 x.1 in
          let z : length (rest ++ reverse args) - x.0.height ≡ 0 = omega (arith, x.2) in
          subst (λ (y : Span). Crosses es y.begin y.end × ((ms : List Label) × Leads es y.end ms next)) (sym x.3) (span_crosses es x.0.begin next k.0 (k.2.0, k.2.1, subst (Passes 1 k.2.0) z k.2.2), ([], refl)))
    ];
    total = λ ds l ms e. elim (snoc_cases d.path ds label l ms e) [
      | inl x ↦ (node, subst (λ ks. Leads es 0 ks node) (sym x) d.leads, begins_on node begins_here)
      | inr x ↦ (let k = d.total ds l x.0 x.1 in (k.0, k.1, begins_on k.0 (begins_more k.0 k.2)))
    ];
  }

-- an atom of which no label is passed
pub descent_start : (f : Forest) (es : List Edge) (atom : ℕ) → atom < length f.trees → IsDescent f es (labels f (tree_at f atom)) 0 (atom ∷ []) [] []
descent_start f es atom w = record {
  path = [];
  leads = refl;
  split = refl;
  ids = All-cons (λ id. id < length f.trees) atom [] w (All-nil (λ id. id < length f.trees));
  opens = λ o h. absurd (omega (arith, h.1));
  sorted = λ i j d p q. absurd (omega arith);
  closes = λ s h. absurd (omega (arith, h.1));
  total = λ ds l ms e. (let z : 0 ≡ length (ds ++ l ∷ ms) = ap length e in absurd (omega (arith, z, length-append ds (l ∷ ms))));
}

pub descent_begun : (f : Forest) (es : List Edge) (atom : ℕ) (left : List ℕ) (opened : List Open) (closed : List Span) → atom < length f.trees → (left ≡ atom ∷ []) × (opened ≡ []) × (closed ≡ [])
    → IsDescent f es (labels f (tree_at f atom)) 0 left opened closed
descent_begun f es atom left opened closed w (a, b, c) =
    subst (λ xs. IsDescent f es (labels f (tree_at f atom)) 0 xs opened closed) (sym a)
    (subst (λ xs. IsDescent f es (labels f (tree_at f atom)) 0 (atom ∷ []) xs closed) (sym b) (subst (λ xs. IsDescent f es (labels f (tree_at f atom)) 0 (atom ∷ []) [] xs) (sym c) (descent_start f es atom w)))

pub none_below : (height : ℕ) (opened : List Open) → opened ≡ [] → AreBelow height opened
none_below height opened e k d w = absurd (omega (arith, w, ap length e))

-- new edges
pub descent_kept : (f : Forest) (es fs : List Edge) → KeepsEdges es fs → (all : List Label) (node : ℕ) (left : List ℕ) (opened : List Open) (closed : List Span)
    → IsDescent f es all node left opened closed → IsDescent f fs all node left opened closed
descent_kept f es fs kept all node left opened closed d = record {
  path = d.path;
  leads = leads_kept es fs kept 0 d.path node d.leads;
  split = d.split;
  ids = d.ids;
  opens = λ o h. (let k = d.opens o h in (k.0, k.1, (k.2.0, leads_kept es fs kept o.begin k.2.0 node k.2.1, k.2.2)));
  sorted = d.sorted;
  closes = λ s h. (let k = d.closes s h in (crosses_kept es fs kept s.begin s.end k.0, (k.1.0, leads_kept es fs kept s.end k.1.0 node k.1.1)));
  total = λ ds l ms e. (let k = d.total ds l ms e in (k.0, leads_kept es fs kept 0 ds k.0 k.1, k.2));
}

-- the exits on an atom's way are all those to nodes on it
pub way_linked : (f : Forest) (es : List Edge) (ms : List Content) → ((k : ℕ) → k < length es → (edge_at es k).from ≤ k) → IsIndexed es → (atom leaf : ℕ) (spans : List Span) → leaf ≤ length es
    → IsWay f es atom leaf spans → ((s : Span) → Contains spans s → Exits ms s.begin s.end) → IsLinked es ms leaf
way_linked f es ms order once atom leaf spans w way listed = linked
  where
    -- an exit from the node by which the way begins with the label
    there : (n : ℕ) (l : Label) (rest : List Label) → n ≤ length es → Leads es n (l ∷ rest) leaf → (e : ℕ) × Contains spans (record { begin = n; end = e })
    there n l rest b down =
        let root = from_root es order n b in
        let full = leads_append es 0 n leaf root.0 (l ∷ rest) root.1 down in
        let r = way.total root.0 l rest (one_way es order 0 (labels f (tree_at f atom)) (root.0 ++ l ∷ rest) leaf way.leads full) in
        let same : r.0 ≡ n = leads_once es once 0 root.0 r.0 n r.1 root.1 in
        (r.2.0, subst (λ b. Contains spans (record { begin = b; end = r.2.0 })) same r.2.1)

    from_node : (n c : ℕ) (rest : List Label) → 0 < n → (ks : List Label) → Leads es n ks c → Passes 1 ks 0 → Leads es c rest leaf → Exits ms n c
    from_node n c rest some [] k q leads = let z : Path ℕ 1 0 = q in absurd (omega (arith, z))
    from_node n c rest some (l ∷ ls) k q leads =
        let v = leads_up es order n (l ∷ ls) c k in
        let u = leads_up es order c rest leaf leads in
        let down = leads_append es n c leaf (l ∷ ls) rest k leads in
        let r = there n l (ls ++ rest) (omega (arith, v, u, w)) down in
        let s = way.sound (record { begin = n; end = r.0 }) r.1 in
        let t = crosses_span es n r.0 some s.0 in
        let e : (l ∷ ls) ++ rest ≡ t.0 ++ s.1.0 = one_way es order n ((l ∷ ls) ++ rest) (t.0 ++ s.1.0) leaf down (leads_append es n r.0 leaf t.0 s.1.0 t.1 s.1.1) in
        let p : l ∷ ls ≡ t.0 = prefix_free (l ∷ ls) t.0 rest s.1.0 1 e q t.2 in
        let same : c ≡ r.0 = leads_once es once n (l ∷ ls) c r.0 k (subst (λ xs. Leads es n xs r.0) (sym p) t.1) in
        subst (λ x. Exits ms n x) (sym same) (listed (record { begin = n; end = r.0 }) r.1)

    linked : IsLinked es ms leaf
    linked zero c rest (l, k) leads =
        let r = there 0 l rest (omega arith) (c, k, leads) in
        let s = way.sound (record { begin = 0; end = r.0 }) r.1 in
        let first : (m : Label) × IsChild es 0 m r.0 = s.0 in
        let e : l ∷ rest ≡ first.0 ∷ s.1.0 = one_way es order 0 (l ∷ rest) (first.0 ∷ s.1.0) leaf (c, k, leads) (r.0, first.1, s.1.1) in
        let p : l ∷ [] ≡ first.0 ∷ [] = (let h : l ≡ first.0 = cc in λ i. h i ∷ []) in
        let same : c ≡ r.0 = leads_once es once 0 (l ∷ []) c r.0 (c, k, refl) (subst (λ xs. Leads es 0 xs r.0) (sym p) (r.0, first.1, refl)) in
        subst (λ x. Exits ms 0 x) (sym same) (listed (record { begin = 0; end = r.0 }) r.1)
    linked (suc n) c rest (ks, k, q) leads = from_node (suc n) c rest (omega arith) ks k q leads

-- all of them are between nodes
pub way_within : (f : Forest) (es : List Edge) → ((k : ℕ) → k < length es → (edge_at es k).from ≤ k) → (atom leaf count : ℕ) (spans : List Span) → leaf < count → IsWay f es atom leaf spans
    → All (λ s. (s.begin < count) × (s.end < count)) spans
way_within f es order atom leaf count spans w way k d h =
    let s = get_or spans k d in
    let r = way.sound s (Contains-get_or spans k d h) in
    let a = cross_ends es order s.begin s.end r.0 in
    let b = leads_up es order s.end r.1.0 leaf r.1.1 in
    (omega (arith, a.0, b, w), omega (arith, b, w))
