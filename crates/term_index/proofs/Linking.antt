-- The lists of exits after one of them is added or taken out.
use Rattle.std.proofs.Common.{◌≡◌, ◌≢◌, ◌<◌, ◌≤◌, ◌+◌, ◌⊎◌, inl, inr, ℕ, suc, List, [], ◌∷◌, ◌++◌, length, get_or, slice_set, ◌-◌, zero, Contains, Bool, true, false, nat_eq, Option, Some, refl, sym, ◌∙◌, ap, subst, arith, length-append}
use Rattle.std.specs.Prelude.{AllPairs}
use Rattle.std.proofs.Math.ListN.{get_or-append}
use Rattle.std.proofs.Math.Seq.{get_or-append_seam}
use Rattle.std.proofs.lemmas.Bool.Decides.{Decides-eqb}
use Rattle.std.specs.List.{swap_remove}
use Rattle.std.proofs.lemmas.List.{get_or_default, get_or-set_same, get_or-set_other, get_or-take, length-take-le, length-set}
use Rattle.std.proofs.lemmas.List.Elements.{Contains-append_left, Contains-push, Contains-push_cases, Contains-get_or}
use Rattle.term_bank.proofs.Nodes.{last_or_before}
use Rattle.term_index.specs.declared.node.Edge.{Edge}
use Rattle.term_index.specs.declared.node.Span.{Span}
use Rattle.term_index.specs.Nodes.{Content}
use Rattle.term_index.specs.Lists.{IsNoted, KeepsExits, KeepsOthers, ListsAll}
use Rattle.term_index.specs.Paths.{PlaceLists, Leads, Crosses, Passes, Reaches, Holds, Exits, MakeTrie, AreListed, IsBare, KeepsPairs, content_at, exit_at, place_of}
use Rattle.term_index.proofs.PathLaws.{leads_split, from_root, one_way, leads_append}
use Rattle.term_index.proofs.TermLaws.{passes_split, first_terms}

pub same_number : (m n : ℕ) → (m ≡ n) ⊎ (¬ (m ≡ n))
same_number m n = by (nat_eq m n) refl
  where
    by : (b : Bool) → nat_eq m n ≡ b → (m ≡ n) ⊎ (¬ (m ≡ n))
    by true e = inl ((Decides-eqb m n).0 e)
    by false e = inr (λ p. let t = (Decides-eqb m n).1 p in absurd (cc))

none_in : (c : ℕ) (xs : List ℕ) → xs ≡ [] → Contains xs c → ⊥
none_in c xs e h = let k : length xs ≡ 0 = ap length e in omega (arith, k, h.1)

read : (xs : List ℕ) (d : ℕ) → Contains xs d → (i : ℕ) × (i < length xs) × (get_or xs i 0 ≡ d)
read xs d w = (w.0, w.1, sym (get_or_default xs w.0 d 0 w.1) ∙ w.2)

item : (xs : List ℕ) (i d : ℕ) → i < length xs → get_or xs i 0 ≡ d → Contains xs d
item xs i d w e = subst (Contains xs) e (Contains-get_or xs i 0 w)

-- the same everywhere
everywhere : {A : Type 0} (P : Content → A) (ns ms : List Content) (node : ℕ) → ((n : ℕ) → ¬ (n ≡ node) → content_at ms n ≡ content_at ns n) → P (content_at ms node) ≡ P (content_at ns node)
    → (n : ℕ) → P (content_at ms n) ≡ P (content_at ns n)
everywhere P ns ms node others same n = elim (same_number n node)
    [ inl e ↦ subst (λ m. P (content_at ms m) ≡ P (content_at ns m)) (sym e) same | inr d ↦ ap P (others n d) ]

pub same_pairs : (ns ms : List Content) (node : ℕ) → ((n : ℕ) → ¬ (n ≡ node) → content_at ms n ≡ content_at ns n) → (content_at ms node).pairs ≡ (content_at ns node).pairs → KeepsPairs ns ms
same_pairs ns ms node others same = everywhere (λ (c : Content). c.pairs) ns ms node others same

pub some_same : (m n : ℕ) → Path (Option ℕ) (Some m) (Some n) → m ≡ n
some_same m n e = cc

-- a span that is listed stands at its place
pub not_listed : (es : List Edge) (ps : PlaceLists) (ns : List Content) (s : Span) → AreListed es ps ns → ((p : ℕ) → place_of es ps s ≡ Some p → p < length (content_at ns s.begin).exits → ¬ (exit_at ns s.begin p ≡ s.end)) → ¬ (Exits ns s.begin s.end)
not_listed es ps ns s a apart h =
    let k = read (content_at ns s.begin).exits s.end h in
    let e : Path Span (record { begin = s.begin; end = exit_at ns s.begin k.0 }) s = λ i. record { begin = s.begin; end = k.2 i } in
    apart k.0 (ap (place_of es ps) (sym e) ∙ a s.begin k.0 k.1) k.1 k.2

-- one more exit
module _ (es : List Edge) (ps qs : PlaceLists) (ns ms : List Content) (s : Span) (a : AreListed es ps ns) (new : ¬ (Exits ns s.begin s.end)) (noted : IsNoted es ps qs s (length (content_at ns s.begin).exits))
    (here : (content_at ms s.begin).exits ≡ (content_at ns s.begin).exits ++ s.end ∷ []) (others : (n : ℕ) → ¬ (n ≡ s.begin) → content_at ms n ≡ content_at ns n) where
  longer_here : length (content_at ms s.begin).exits ≡ length (content_at ns s.begin).exits + 1
  longer_here = ap length here ∙ (let z = length-append (content_at ns s.begin).exits (s.end ∷ []) in omega arith)

  old_exit : (i : ℕ) → i < length (content_at ns s.begin).exits → exit_at ms s.begin i ≡ exit_at ns s.begin i
  old_exit i v = ap (λ xs. get_or xs i 0) here ∙ get_or-append (content_at ns s.begin).exits (s.end ∷ []) 0 i v

  new_exit : exit_at ms s.begin (length (content_at ns s.begin).exits) ≡ s.end
  new_exit = ap (λ xs. get_or xs (length (content_at ns s.begin).exits) 0) here ∙ get_or-append_seam (content_at ns s.begin).exits s.end [] 0

  -- each exit is an old one or the new one
  exit_cases : (n i : ℕ) → i < length (content_at ms n).exits → ((i < length (content_at ns n).exits) × (exit_at ms n i ≡ exit_at ns n i)) ⊎ ((n ≡ s.begin) × (i ≡ length (content_at ns s.begin).exits) × (exit_at ms n i ≡ s.end))
  exit_cases n i v = elim (same_number n s.begin) [
    | inl e ↦ elim (last_or_before i (length (content_at ns s.begin).exits) (omega (arith, subst (λ m. i < length (content_at ms m).exits) e v, longer_here))) [
      | inl b ↦ inl (subst (λ m. i < length (content_at ns m).exits) (sym e) b, ap (λ m. exit_at ms m i) e ∙ old_exit i b ∙ ap (λ m. exit_at ns m i) (sym e))
      | inr q ↦ inr (e, q, ap (λ m. exit_at ms m i) e ∙ ap (exit_at ms s.begin) q ∙ new_exit)
    ]
    | inr d ↦ inl (subst (λ (x : Content). i < length x.exits) (others n d) v, ap (λ (x : Content). get_or x.exits i 0) (others n d))
  ]

  -- an old one is not the new one
  apart : (n i : ℕ) → i < length (content_at ns n).exits → ¬ (Path Span (record { begin = n; end = exit_at ns n i }) s)
  apart n i v e =
      let b : n ≡ s.begin = ap (λ (x : Span). x.begin) e in
      let d : exit_at ns n i ≡ s.end = ap (λ (x : Span). x.end) e in
      new (subst (λ m. Exits ns m s.end) b (item (content_at ns n).exits i s.end v d))

  pub pushed_listed : AreListed es qs ms
  pushed_listed n i v = elim (exit_cases n i v) [
    | inl x ↦ ap (λ c. place_of es qs (record { begin = n; end = c })) x.1 ∙ noted.others (record { begin = n; end = exit_at ns n i }) i (apart n i x.0) (a n i x.0)
    | inr x ↦ ap (place_of es qs) (λ j. record { begin = x.0 j; end = x.2 j }) ∙ noted.here ∙ ap Some (sym x.1)
  ]

  pub pushed_kept : KeepsExits ns ms
  pushed_kept n c x = elim (same_number n s.begin) [
    | inl e ↦ subst (λ m. Exits ms m c) (sym e) (subst (λ xs. Contains xs c) (sym here) (Contains-append_left (content_at ns s.begin).exits (s.end ∷ []) c (subst (λ m. Exits ns m c) e x)))
    | inr d ↦ subst (λ (y : Content). Contains y.exits c) (sym (others n d)) x
  ]

  pub pushed_there : Exits ms s.begin s.end
  pushed_there = subst (λ xs. Contains xs s.end) (sym here) (Contains-push (content_at ns s.begin).exits s.end)

  pub pushed_sound : (n c : ℕ) → Exits ms n c → Exits ns n c ⊎ Path Span (record { begin = n; end = c }) s
  pushed_sound n c x =
      let k = read (content_at ms n).exits c x in
      elim (exit_cases n k.0 k.1) [
        | inl y ↦ inl (item (content_at ns n).exits k.0 c y.0 (sym y.1 ∙ k.2))
        | inr y ↦ inr (let e : c ≡ s.end = sym k.2 ∙ y.2 in λ j. record { begin = y.0 j; end = e j })
      ]

pub lists_more : (ns ms os : List Content) (added : List Span) (s : Span) → ListsAll ns added ms
    → ((n c : ℕ) → Exits os n c → Exits ms n c ⊎ Path Span (record { begin = n; end = c }) s) → Exits os s.begin s.end → KeepsExits ms os → ListsAll ns (added ++ s ∷ []) os
lists_more ns ms os added s a sound there kept = record {
  sound = λ n c x. elim (sound n c x) [
    | inl y ↦ elim (a.sound n c y) [ inl z ↦ inl z | inr z ↦ inr (Contains-append_left added (s ∷ []) (record { begin = n; end = c }) z) ]
    | inr e ↦ inr (subst (Contains (added ++ s ∷ [])) (sym e) (Contains-push added s))
  ];
  all = λ u h. elim (Contains-push_cases added s u h) [ inl y ↦ kept u.begin u.end (a.all u y) | inr e ↦ subst (λ (x : Span). Exits os x.begin x.end) e there ];
  kept = λ n c x. kept n c (a.kept n c x);
}

-- the items after one was taken out and the last one took its place
pub swapped : {A : Type 0} (xs ys : List A) (p : ℕ) (d z : A) → p < length xs → ys ≡ swap_remove xs p d
    → (length ys + 1 ≡ length xs) × ((i : ℕ) → i < length ys → ¬ (i ≡ p) → get_or ys i z ≡ get_or xs i z) × (p < length ys → get_or ys p z ≡ get_or xs (length ys) z)
swapped xs ys p d z w e = (
  long,
  (λ i b q. at i b ∙ get_or-set_other xs p i (get_or xs (length xs - 1) d) z q),
  (λ b. at p b ∙ get_or-set_same xs p (get_or xs (length xs - 1) d) z w ∙ get_or_default xs (length xs - 1) d z (omega arith) ∙ ap (λ k. get_or xs k z) last),
)
  where
    long : length ys + 1 ≡ length xs
    long =
        let s = ap length e ∙ length-take-le (length xs - 1) (slice_set xs p (get_or xs (length xs - 1) d)) (omega (arith, length-set xs p (get_or xs (length xs - 1) d))) in
        omega (arith, s, w)

    last : length xs - 1 ≡ length ys
    last = omega (arith, long)

    at : (i : ℕ) → i < length ys → get_or ys i z ≡ get_or (slice_set xs p (get_or xs (length xs - 1) d)) i z
    at i b = ap (λ zs. get_or zs i z) e ∙ get_or-take (length xs - 1) (slice_set xs p (get_or xs (length xs - 1) d)) i z (omega (arith, long))

-- one exit less: the last one takes its place
module _ (es : List Edge) (ps qs : PlaceLists) (ns ms : List Content) (s : Span) (p d : ℕ) (a : AreListed es ps ns) (w : p < length (content_at ns s.begin).exits) (at : exit_at ns s.begin p ≡ s.end)
    (is : (content_at ms s.begin).exits ≡ swap_remove (content_at ns s.begin).exits p d) (others : (n : ℕ) → ¬ (n ≡ s.begin) → content_at ms n ≡ content_at ns n) where
  swap : (length (content_at ms s.begin).exits + 1 ≡ length (content_at ns s.begin).exits) × ((i : ℕ) → i < length (content_at ms s.begin).exits → ¬ (i ≡ p) → exit_at ms s.begin i ≡ exit_at ns s.begin i)
      × (p < length (content_at ms s.begin).exits → exit_at ms s.begin p ≡ exit_at ns s.begin (length (content_at ms s.begin).exits))
  swap = swapped (content_at ns s.begin).exits (content_at ms s.begin).exits p d 0 w is

  from_item : (i : ℕ) → i < length (content_at ms s.begin).exits → (j : ℕ) × (j < length (content_at ns s.begin).exits) × (exit_at ms s.begin i ≡ exit_at ns s.begin j)
  from_item i v = elim (same_number i p) [
    | inl e ↦ (length (content_at ms s.begin).exits, omega (arith, swap.0), ap (exit_at ms s.begin) e ∙ swap.2 (omega arith))
    | inr q ↦ (i, omega (arith, swap.0), swap.1 i v q)
  ]

  -- the last exit, which takes the place, had a place
  pub moved_known : p < length (content_at ms s.begin).exits → place_of es ps (record { begin = s.begin; end = exit_at ms s.begin p }) ≡ Some (length (content_at ms s.begin).exits)
  moved_known b = ap (λ c. place_of es ps (record { begin = s.begin; end = c })) (swap.2 b) ∙ a s.begin (length (content_at ms s.begin).exits) (omega (arith, swap.0))

  fewer_here : (c : ℕ) → Exits ms s.begin c → Exits ns s.begin c
  fewer_here c h =
      let k = read (content_at ms s.begin).exits c h in
      let j = from_item k.0 k.1 in
      item (content_at ns s.begin).exits j.0 c j.1 (sym j.2 ∙ k.2)

  kept_here : (c : ℕ) → Exits ns s.begin c → ¬ (c ≡ s.end) → Exits ms s.begin c
  kept_here c h differ =
      let k = read (content_at ns s.begin).exits c h in
      elim (last_or_before k.0 (length (content_at ms s.begin).exits) (omega (arith, k.1, swap.0))) [
        | inl b ↦ item (content_at ms s.begin).exits k.0 c b (swap.1 k.0 b (λ q. differ (sym k.2 ∙ ap (exit_at ns s.begin) q ∙ at)) ∙ k.2)
        | inr q ↦ (let other : ¬ (k.0 ≡ p) = λ e. differ (sym k.2 ∙ ap (exit_at ns s.begin) e ∙ at) in
            let b : p < length (content_at ms s.begin).exits = below p (length (content_at ms s.begin).exits) (omega (arith, w, swap.0)) (λ e. other (q ∙ sym e)) in
            item (content_at ms s.begin).exits p c b (swap.2 b ∙ ap (exit_at ns s.begin) (sym q) ∙ k.2))
      ]
    where
      below : (m n : ℕ) → m ≤ n → ¬ (m ≡ n) → m < n
      below m n v q = elim (same_number m n) [ inl e ↦ absurd (q e) | inr e ↦ grind arith ]

  pub taken_others : length ms ≡ length ns → (content_at ms s.begin).pairs ≡ (content_at ns s.begin).pairs → KeepsOthers ns s ms
  taken_others len pairs = record {
    len = len;
    pairs = same_pairs ns ms s.begin others pairs;
    kept = λ n c x differ. elim (same_number n s.begin) [
      | inl e ↦ subst (λ m. Exits ms m c) (sym e) (kept_here c (subst (λ m. Exits ns m c) e x) (λ q. differ (λ i. record { begin = e i; end = q i })))
      | inr q ↦ subst (λ (y : Content). Contains y.exits c) (sym (others n q)) x
    ];
    fewer = λ n c x. elim (same_number n s.begin) [
      | inl e ↦ subst (λ m. Exits ns m c) (sym e) (fewer_here c (subst (λ m. Exits ms m c) e x))
      | inr q ↦ subst (λ (y : Content). Contains y.exits c) (others n q) x
    ];
  }

  module _ (moved : p < length (content_at ms s.begin).exits → IsNoted es ps qs (record { begin = s.begin; end = exit_at ms s.begin p }) p) (still : length (content_at ms s.begin).exits ≤ p → qs ≡ ps) where
    -- what is known of an exit that was not moved
    unmoved : (n i : ℕ) → i < length (content_at ns n).exits → (p < length (content_at ms s.begin).exits → ¬ ((n ≡ s.begin) × (i ≡ length (content_at ms s.begin).exits))) → place_of es qs (record { begin = n; end = exit_at ns n i }) ≡ Some i
    unmoved n i v q = elim (Rattle.std.proofs.lemmas.Bool.cases_lt p (length (content_at ms s.begin).exits)) [
      | inl b ↦ (moved b).others (record { begin = n; end = exit_at ns n i }) i (λ e. q b (same b e)) (a n i v)
      | inr b ↦ ap (λ (ks : PlaceLists). place_of es ks (record { begin = n; end = exit_at ns n i })) (still b) ∙ a n i v
    ]
      where
        same : p < length (content_at ms s.begin).exits → Path Span (record { begin = n; end = exit_at ns n i }) (record { begin = s.begin; end = exit_at ms s.begin p }) → (n ≡ s.begin) × (i ≡ length (content_at ms s.begin).exits)
        same b e = (ap (λ (x : Span). x.begin) e, some_same i (length (content_at ms s.begin).exits) (sym (a n i v) ∙ ap (place_of es ps) e ∙ moved_known b))

    here_placed : (i : ℕ) → i < length (content_at ms s.begin).exits → place_of es qs (record { begin = s.begin; end = exit_at ms s.begin i }) ≡ Some i
    here_placed i v = elim (same_number i p) [
      | inl e ↦ (let b : p < length (content_at ms s.begin).exits = subst (λ x. x < length (content_at ms s.begin).exits) e v in ap (λ x. place_of es qs (record { begin = s.begin; end = exit_at ms s.begin x })) e ∙ (moved b).here ∙ ap Some (sym e))
      | inr q ↦ ap (λ c. place_of es qs (record { begin = s.begin; end = c })) (swap.1 i v q) ∙ unmoved s.begin i (omega (arith, swap.0)) (λ b e. (let z = e.1 in omega arith))
    ]

    pub taken_listed : AreListed es qs ms
    taken_listed n i v = elim (same_number n s.begin) [
      | inl e ↦ subst (λ m. place_of es qs (record { begin = m; end = exit_at ms m i }) ≡ Some i) (sym e) (here_placed i (subst (λ m. i < length (content_at ms m).exits) e v))
      | inr q ↦ ap (λ (x : Content). place_of es qs (record { begin = n; end = get_or x.exits i 0 })) (others n q) ∙ unmoved n i (subst (λ (x : Content). i < length x.exits) (others n q) v) (λ b e. q e.0)
    ]

-- no pair ends at a bare node or below it
pub bare_reaches : (es : List Edge) (ps : PlaceLists) (ns : List Content) → MakeTrie es ps ns → (c : ℕ) → c < length ns → IsBare (content_at ns c) → ¬ (Reaches es ns c)
bare_reaches es ps ns a c w bare ([], m, p, l, h) = let z : length (content_at ns c).pairs ≡ 0 = ap length bare.0 in let k = subst (λ x. Holds ns x p) (sym l) h in absurd (omega (arith, z, k.1))
bare_reaches es ps ns a zero w bare (x ∷ ls, m, p, (d, k, l), h) = none_in d (content_at ns 0).exits bare.1 (a.linked 0 d (x, k) (ls, m, p, l, h))
bare_reaches es ps ns a (suc n) w bare (x ∷ ls, m, p, l, h) =
    let some : 0 < length ns = omega arith in
    let root = from_root es a.order (suc n) (omega (arith, a.count some)) in
    let full = a.whole m p h in
    let same : full.0 ≡ root.0 ++ x ∷ ls = one_way es a.order 0 full.0 (root.0 ++ x ∷ ls) m full.1 (leads_append es 0 (suc n) m root.0 (x ∷ ls) root.1 l) in
    let s = passes_split root.0 (x ∷ ls) 1 0 (subst (λ xs. Passes 1 xs 0) same full.2) in
    at s.0 s.2
  where
    at : (k : ℕ) → Passes k (x ∷ ls) 0 → ⊥
    at zero q = q
    at (suc k) q =
        let r = first_terms (x ∷ ls) (suc k) 1 k (omega arith) q in
        let t = leads_split es (suc n) m r.0 r.1 (subst (λ xs. Leads es (suc n) xs m) r.2 l) in
        let e = a.linked (suc n) t.0 (r.0, t.1, r.3) (r.1, m, p, t.2, h) in
        none_in t.0 (content_at ns (suc n)).exits bare.1 e

-- the tree without an exit that leads to a bare node
pub unlinked_trie : (es : List Edge) (ps qs : PlaceLists) (ns ms : List Content) (s : Span) → MakeTrie es ps ns → s.end < length ns → IsBare (content_at ns s.end) → AreListed es qs ms → KeepsOthers ns s ms → MakeTrie es qs ms
unlinked_trie es ps qs ns ms s a end bare l h = record {
  count = λ v. h.len ∙ a.count (omega (arith, h.len));
  none = λ v. a.none (omega (arith, h.len));
  order = a.order;
  once = a.once;
  short = a.short;
  listed = l;
  exits = λ n c x. a.exits n c (h.fewer n c x);
  linked = λ n c k reach. h.kept n c (a.linked n c k (before c reach)) (λ e. bare_reaches es ps ns a s.end end bare (subst (Reaches es ns) (ap (λ (y : Span). y.end) e) (before c reach)));
  whole = λ n p k. a.whole n p (held n p k);
  pairs_once = λ n. subst (AllPairs ◌≢◌) (sym (h.pairs n)) (a.pairs_once n);
  one_place = λ m n q u v. a.one_place m n q (held m q u) (held n q v);
}
  where
    held : (n : ℕ) (p : _) → Holds ms n p → Holds ns n p
    held n p k = subst (λ xs. Contains xs p) (h.pairs n) k

    before : (c : ℕ) → Reaches es ms c → Reaches es ns c
    before c (ls, m, p, l, k) = (ls, m, p, l, held m p k)

-- the tree with more spans listed
pub listed_trie : (es : List Edge) (ps qs : PlaceLists) (ns ms : List Content) (added : List Span) → MakeTrie es ps ns → AreListed es qs ms → ListsAll ns added ms → length ms ≡ length ns → KeepsPairs ns ms
    → ((s : Span) → Contains added s → Crosses es s.begin s.end) → MakeTrie es qs ms
listed_trie es ps qs ns ms added a l h len pairs are = record {
  count = λ v. len ∙ a.count (omega (arith, len));
  none = λ v. a.none (omega (arith, len));
  order = a.order;
  once = a.once;
  short = a.short;
  listed = l;
  exits = λ n c x. elim (h.sound n c x) [ inl y ↦ a.exits n c y | inr y ↦ are (record { begin = n; end = c }) y ];
  linked = λ n c k reach. h.kept n c (a.linked n c k (reach.0, reach.1, reach.2, reach.3, held reach.1 reach.2 reach.4));
  whole = λ n p k. a.whole n p (held n p k);
  pairs_once = λ n. subst (AllPairs ◌≢◌) (sym (pairs n)) (a.pairs_once n);
  one_place = λ m n q u v. a.one_place m n q (held m q u) (held n q v);
}
  where
    held : (n : ℕ) (p : _) → Holds ms n p → Holds ns n p
    held n p k = subst (λ xs. Contains xs p) (pairs n) k
