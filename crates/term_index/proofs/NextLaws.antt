-- The spots after one term.
use Rattle.std.proofs.Common.{◌≡◌, ◌≢◌, ◌<◌, ◌+◌, ◌⊎◌, inl, inr, ℕ, zero, suc, List, [], ◌∷◌, ◌++◌, length, map, get_or, Contains, Option, Some, None, refl, sym, ◌∙◌, ap, subst, arith, append-nil}
use Rattle.std.specs.Prelude.{AllPairs}
use Rattle.std.proofs.lemmas.List.Elements.{Contains-append_left, Contains-append_right, Contains-append_cases, Contains-get_or}
use Rattle.term_index.specs.declared.view.View.{View}
use Rattle.term_index.specs.declared.label.Label.{Label}
use Rattle.term_index.specs.declared.node.Edge.{Edge}
use Rattle.term_index.specs.Labels.{arity_of}
use Rattle.term_index.specs.Pairs.{Posting}
use Rattle.term_index.specs.Paths.{PlaceLists, IsBare, IsChild, MakeTrie, Leads, Passes, Spans, Holds, Reaches, edge_at, content_at, exit_at, place_of}
use Rattle.term_index.specs.Run.{Graph, Todo, step, run, nothing_left}
use Rattle.term_index.specs.Nodes.{Content}
use Rattle.term_index.specs.Spots.{Spot, Covers, AreApart, AreNext}
use Rattle.term_index.proofs.SpotLaws.{pairs_append, pairs_weaker}
use Rattle.std.proofs.lemmas.Bool.{cases_lt}
use Rattle.term_index.specs.Frames.{IsLive, LeadsNowhere, leaves_before, ends_of}
use Rattle.term_index.proofs.Linking.{some_same, bare_reaches}
use Rattle.term_index.proofs.PathLaws.{one_way, leads_append, leads_split, leads_once}
use Rattle.term_index.proofs.CrossLaws.{span_ends}
use Rattle.term_index.proofs.Growing.{holds_within}
use Rattle.term_index.proofs.LeafLaws.{leaf_in, leaf_is, leaves_once}
use Rattle.term_index.proofs.RunLaws.{run_append, run_none}
use Rattle.term_index.proofs.TermLaws.{passes_run, run_passes, prefix_free}

of_map : {A B : Type 0} (f : A → B) (xs : List A) (y : B) → Contains (map f xs) y → (x : A) × Contains xs x × (f x ≡ y)
of_map f [] y (k, h, e) = absurd (omega arith)
of_map f (x ∷ xs) y (zero, h, e) = (x, (0, omega arith, refl), e)
of_map f (x ∷ xs) y (suc k, h, e) = let r = of_map f xs y (k, omega arith, e) in (r.0, (suc r.1.0, omega (arith, r.1.1), r.1.2), r.2)

pub in_map : {A B : Type 0} (f : A → B) (xs : List A) (x : A) → Contains xs x → Contains (map f xs) (f x)
in_map f [] x (k, h, e) = absurd (omega arith)
in_map f (y ∷ xs) x (zero, h, e) = (0, omega arith, ap f e)
in_map f (y ∷ xs) x (suc k, h, e) = let r = in_map f xs x (k, omega arith, e) in (suc r.0, omega (arith, r.1), r.2)

read_map : {A B : Type 0} (f : A → B) (xs : List A) (k : ℕ) (d : B) (e : A) → k < length xs → get_or (map f xs) k d ≡ f (get_or xs k e)
read_map f [] k d e h = absurd (omega arith)
read_map f (x ∷ xs) zero d e h = refl
read_map f (x ∷ xs) (suc k) d e h = read_map f xs k d e (omega arith)

-- the spots one label further on, but for those at bare nodes
pub record AreChildren (v : View) (g : Graph) (es : List Edge) (ns : List Content) (s : Spot) (ts : List Spot) : Type 0 where
  pub sound : (t : Spot) → Contains ts t → (l : Label) × IsChild es s.node l t.node × (step v g l (Some s.todo) ≡ Some t.todo)
  pub whole : (l : Label) (c : ℕ) (t : Todo) → IsLive es ns s.node l c → step v g l (Some s.todo) ≡ Some t → Contains ts (record { node = c; todo = t })
  pub apart : AllPairs (λ a b. a.node ≢ b.node) ts

-- where the label leads from the node, if not to a bare one, with this todo
abbrev pub IsOne : List Edge → List Content → ℕ → Label → Todo → List Spot → Type 0
IsOne es ns n l t xs = ((xs ≡ []) × LeadsNowhere es ns n l) ⊎ ((c : ℕ) × IsLive es ns n l c × (xs ≡ record { node = c; todo = t } ∷ []))

module _ (v : View) (g : Graph) (es : List Edge) (ps : PlaceLists) (ns : List Content) (a : MakeTrie es ps ns) where
  same_child : (n : ℕ) (l m : Label) (c d : ℕ) → l ≡ m → IsChild es n l c → IsChild es n m d → c ≡ d
  same_child n l m c d e h k =
      let r = a.once h.edge k.edge h.within k.within (h.is ∙ ap (λ (x : Label). record { from = n; label = x }) e ∙ sym k.is) in
      omega (arith, h.number, k.number)

  later : (n c : ℕ) (l : Label) → IsChild es n l c → n < c
  later n c l k =
      let o = a.order k.edge k.within in
      let e : (edge_at es k.edge).from ≡ n = ap (λ (x : Edge). x.from) k.is in
      omega (arith, k.number, o, e)

  pub child_within : (n : ℕ) (l : Label) (c : ℕ) → IsChild es n l c → c < length ns
  child_within n l c h = elim (cases_lt 0 (length ns)) [ inl p ↦ omega (arith, h.number, h.within, a.count p) | inr z ↦ absurd (omega (arith, h.within, a.none (omega arith))) ]

  -- they are those after one term
  children_next : (s : Spot) (ts : List Spot) → ¬ (s.todo ≡ nothing_left) → AreChildren v g es ns s ts → AreNext v g es ns s ts
  children_next s ts left n = record {
    above = λ t h. (let k = n.sound t h in later s.node t.node k.0 k.1);
    sound = λ t h m c. (let k = n.sound t h in (k.0 ∷ c.0, (t.node, k.1, c.1), ap (run v g c.0) k.2 ∙ c.2));
    whole = λ m p c held. whole m p held c.0 c.1 c.2;
    apart = pairs_weaker (λ x y. x.node ≢ y.node) (AreApart v g es) ts differ n.apart;
  }
    where
      whole : (m : ℕ) (p : Posting) → Holds ns m p → (ls : List Label) → Leads es s.node ls m → run v g ls (Some s.todo) ≡ Some nothing_left → (t : Spot) × Contains ts t × Covers v g es t m
      whole m p held [] l r = absurd (left (let k : s.todo ≡ nothing_left = cc in k))
      whole m p held (x ∷ ls) (c, k, l) r = by (step v g x (Some s.todo)) refl r
        where
          by : (o : Option Todo) → step v g x (Some s.todo) ≡ o → run v g ls o ≡ Some nothing_left → (t : Spot) × Contains ts t × Covers v g es t m
          by None e h = let j = run_none v g ls in absurd (cc)
          by (Some t) e h = (record { node = c; todo = t }, n.whole x c t (k, λ bare. bare_reaches es ps ns a c (child_within s.node x c k) bare (ls, m, p, l, held)) e, (ls, l, h))

      differ : (x y : Spot) → Contains ts x → Contains ts y → x.node ≢ y.node → AreApart v g es x y
      differ x y p q d m (ls, l, r) (ks, k, o) =
          let i = n.sound x p in
          let j = n.sound y q in
          let same : i.0 ∷ ls ≡ j.0 ∷ ks = one_way es a.order s.node (i.0 ∷ ls) (j.0 ∷ ks) m (x.node, i.1, l) (y.node, j.1, k) in
          let e : i.0 ≡ j.0 = cc in
          d (same_child s.node i.0 j.0 x.node y.node e i.1 j.1)

  -- the spot at an exit
  abbrev pub exit_spot : List ℕ → ℕ → Spot
  exit_spot rest c = record { node = c; todo = (0, rest) }

  -- every term is passed over, where these are the nodes at which pairs end, or below which, and at which terms from the node end
  module _ (n q : ℕ) (rest : List ℕ) (go : (l : Label) → step v g l (Some (0, q ∷ rest)) ≡ Some (0 + arity_of l, rest)) (xs : List ℕ) (are : (c : ℕ) → Contains xs c → Spans es n c)
      (all : (c : ℕ) → Spans es n c → Reaches es ns c → Contains xs c) (once : (i j : ℕ) → i < length xs → j < length xs → get_or xs i 0 ≡ get_or xs j 0 → i ≡ j) where
    passed : (ks : List Label) → Passes 1 ks 0 → run v g ks (Some (0, q ∷ rest)) ≡ Some (0, rest)
    passed [] p = let z : 1 ≡ 0 = p in absurd (omega arith)
    passed (l ∷ ks) p = ap (run v g ks) (go l) ∙ passes_run v g ks (0 + arity_of l) rest p

    back : (c m : ℕ) → Contains xs c → Covers v g es (exit_spot rest c) m → Covers v g es (record { node = n; todo = (0, q ∷ rest) }) m
    back c m h (ls, l, e) =
        let k = are c h in
        (k.0 ++ ls, leads_append es n c m k.0 ls k.1 l, run_append v g k.0 ls (Some (0, q ∷ rest)) ∙ ap (run v g ls) (passed k.0 k.2) ∙ e)

    on : (m : ℕ) (p : Posting) (ls : List Label) → Leads es n ls m → run v g ls (Some (0, q ∷ rest)) ≡ Some nothing_left → Holds ns m p → (c : ℕ) × Contains xs c × Covers v g es (exit_spot rest c) m
    on m p [] l h held =
        let e : Path (ℕ × List ℕ) (0, q ∷ rest) (0, []) = cc in
        let z : length (q ∷ rest) ≡ 0 = ap (λ (t : ℕ × List ℕ). length t.1) e in
        absurd (omega arith)
    on m p (x ∷ ls) l h held =
        let r = run_passes v g ls (0 + arity_of x) rest (ap (run v g ls) (sym (go x)) ∙ h) in
        let s = leads_split es n m (x ∷ r.0) r.1 (subst (λ ks. Leads es n (x ∷ ks) m) r.2 l) in
        (s.0, all s.0 (x ∷ r.0, s.1, r.3) (r.1, m, p, s.2, held), (r.1, s.2, r.4))

    same_end : (i j : ℕ) → i < length xs → j < length xs → (m : ℕ) → Covers v g es (exit_spot rest (get_or xs i 0)) m → Covers v g es (exit_spot rest (get_or xs j 0)) m → i ≡ j
    same_end i j b d m (ls, l, e) (ms, k, f) =
        let x = are (get_or xs i 0) (Contains-get_or xs i 0 b) in
        let y = are (get_or xs j 0) (Contains-get_or xs j 0 d) in
        let one = one_way es a.order n (x.0 ++ ls) (y.0 ++ ms) m (leads_append es n (get_or xs i 0) m x.0 ls x.1 l) (leads_append es n (get_or xs j 0) m y.0 ms y.1 k) in
        let p = prefix_free x.0 y.0 ls ms 1 one x.2 y.2 in
        once i j b d (leads_once es a.once n x.0 (get_or xs i 0) (get_or xs j 0) x.1 (subst (λ ks. Leads es n ks (get_or xs j 0)) (sym p) y.1))

    terms_next : AreNext v g es ns (record { node = n; todo = (0, q ∷ rest) }) (map (exit_spot rest) xs)
    terms_next = record {
      above = λ t h. (let r = of_map (exit_spot rest) xs t h in subst (λ (x : Spot). n < x.node) r.2 (span_ends es a.order n r.0 (are r.0 r.1)).0);
      sound = λ t h m c. (let r = of_map (exit_spot rest) xs t h in back r.0 m r.1 (subst (λ x. Covers v g es x m) (sym r.2) c));
      whole = λ m p c held. (let r = on m p c.0 c.1 c.2 held in (exit_spot rest r.0, in_map (exit_spot rest) xs r.0 r.1, r.2));
      apart = λ i j d b w m x y. (let len : length (map (exit_spot rest) xs) ≡ length xs = Rattle.std.proofs.lemmas.List.length-map xs (exit_spot rest) in
          let p : i < length xs = omega arith in
          let k : j < length xs = omega arith in
          let e = same_end i j p k m (subst (λ s. Covers v g es s m) (read_map (exit_spot rest) xs i d 0 p) x) (subst (λ s. Covers v g es s m) (read_map (exit_spot rest) xs j d 0 k) y) in
          omega arith);
    }

  -- no exit is listed twice
  exits_once : (n i j : ℕ) → i < length (content_at ns n).exits → j < length (content_at ns n).exits → exit_at ns n i ≡ exit_at ns n j → i ≡ j
  exits_once n i j b d e = some_same i j (sym (a.listed n i b) ∙ ap (λ c. place_of es ps (record { begin = n; end = c })) e ∙ a.listed n j d)

  -- where an atom ends, below the end of another, it is that one
  leaf_end : (c : ℕ) → Spans es 0 c → Reaches es ns c → (p : Posting) × Holds ns c p
  leaf_end c (ks, k, q) (ls, m, p, l, h) =
      let full = a.whole m p h in
      let e : full.0 ++ [] ≡ ks ++ ls = append-nil full.0 ∙ one_way es a.order 0 full.0 (ks ++ ls) m full.1 (leads_append es 0 c m ks ls k l) in
      let same : m ≡ c = leads_once es a.once 0 ks m c (subst (λ xs. Leads es 0 xs m) (prefix_free full.0 ks [] ls 1 e full.2 q) full.1) k in
      (p, subst (λ x. Holds ns x p) same h)

  pub ends_next : (n q : ℕ) (rest : List ℕ) → ((l : Label) → step v g l (Some (0, q ∷ rest)) ≡ Some (0 + arity_of l, rest)) → AreNext v g es ns (record { node = n; todo = (0, q ∷ rest) }) (map (exit_spot rest) (ends_of ns n))
  ends_next zero q rest go = terms_next 0 q rest go (leaves_before ns (length ns)) (λ c h. (let r = leaf_is ns (length ns) c h in a.whole c r.1.0 r.1.1))
      (λ c s h. (let r = leaf_end c s h in leaf_in ns (length ns) c r.0 (holds_within ns c r.0 r.1) r.1)) (leaves_once ns (length ns))
  ends_next (suc n) q rest go = terms_next (suc n) q rest go (content_at ns (suc n)).exits (λ c h. a.exits (suc n) c h) (λ c s h. a.linked (suc n) c s h) (exits_once (suc n))

  pub end_within : (n c : ℕ) → n < length ns → Contains (ends_of ns n) c → c < length ns
  end_within zero c w h = (leaf_is ns (length ns) c h).0
  end_within (suc n) c w h = let r = span_ends es a.order (suc n) c (a.exits (suc n) c h) in omega (arith, r.1, a.count (omega (arith, w)))

  one_sound : (n : ℕ) (l : Label) (t : Todo) (xs : List Spot) → IsOne es ns n l t xs → (u : Spot) → Contains xs u → IsChild es n l u.node × (u.todo ≡ t)
  one_sound n l t xs (inl (e, h)) u k = let z : length xs ≡ 0 = ap length e in absurd (omega (arith, k.1))
  one_sound n l t xs (inr (c, h, e)) u k =
      let q = Rattle.term_index.proofs.SpotLaws.only (record { node = c; todo = t }) u (subst (λ ys. Contains ys u) e k) in
      (subst (λ x. IsChild es n l x) (sym (ap (λ (x : Spot). x.node) q)) h.0, ap (λ (x : Spot). x.todo) q)

  one_whole : (n : ℕ) (l : Label) (t : Todo) (xs : List Spot) → IsOne es ns n l t xs → (c : ℕ) → IsLive es ns n l c → Contains xs (record { node = c; todo = t })
  one_whole n l t xs (inl (e, inl h)) c k = absurd (h c k.0)
  one_whole n l t xs (inl (e, inr (d, h, bare))) c k =
      let j = a.once h.edge k.0.edge h.within k.0.within (h.is ∙ sym k.0.is) in
      let same : d ≡ c = omega (arith, h.number, k.0.number) in
      absurd (k.1 (subst (λ x. IsBare (content_at ns x)) same bare))
  one_whole n l t xs (inr (d, h, e)) c k =
      let j = a.once h.0.edge k.0.edge h.0.within k.0.within (h.0.is ∙ sym k.0.is) in
      let same : c ≡ d = omega (arith, h.0.number, k.0.number) in
      subst (λ ys. Contains ys (record { node = c; todo = t })) (sym e) (0, omega arith, ap (λ m. record { node = m; todo = t }) (sym same))

  one_apart : (n : ℕ) (l : Label) (t : Todo) (xs : List Spot) → IsOne es ns n l t xs → AllPairs (λ a b. a.node ≢ b.node) xs
  one_apart n l t xs (inl (e, h)) i j d a b x = let z : length xs ≡ 0 = ap length e in omega arith
  one_apart n l t xs (inr (c, h, e)) i j d a b x = let z : length xs ≡ 1 = ap length e in omega arith

  -- one label leads on
  pub next_one : (s : Spot) (l : Label) (t : Todo) (xs : List Spot) → ¬ (s.todo ≡ nothing_left) → IsOne es ns s.node l t xs → step v g l (Some s.todo) ≡ Some t
      → ((m : Label) (u : Todo) → step v g m (Some s.todo) ≡ Some u → m ≡ l) → AreNext v g es ns s xs
  next_one s l t xs left one go alone = children_next s xs left (record {
    sound = λ u h. (let r = one_sound s.node l t xs one u h in (l, r.0, go ∙ ap Some (sym r.1)));
    whole = λ m c u h e. (let q = alone m u e in
        let k : t ≡ u = (let p : Some t ≡ Some u = sym go ∙ ap (λ x. step v g x (Some s.todo)) (sym q) ∙ e in cc) in
        subst (λ (x : Todo). Contains xs (record { node = c; todo = x })) k (one_whole s.node l t xs one c (subst (λ x. IsLive es ns s.node x c) q h)));
    apart = one_apart s.node l t xs one;
  })

  -- two labels lead on
  pub next_two : (s : Spot) (l m : Label) (t u : Todo) (xs ys : List Spot) → ¬ (s.todo ≡ nothing_left) → l ≢ m → IsOne es ns s.node l t xs → IsOne es ns s.node m u ys
      → step v g l (Some s.todo) ≡ Some t → step v g m (Some s.todo) ≡ Some u → ((k : Label) (w : Todo) → step v g k (Some s.todo) ≡ Some w → (k ≡ l) ⊎ (k ≡ m)) → AreNext v g es ns s (xs ++ ys)
  next_two s l m t u xs ys left differ one two go to alone = children_next s (xs ++ ys) left (record {
    sound = λ w h. elim (Contains-append_cases xs ys w h) [
      | inl k ↦ (let r = one_sound s.node l t xs one w k in (l, r.0, go ∙ ap Some (sym r.1)))
      | inr k ↦ (let r = one_sound s.node m u ys two w k in (m, r.0, to ∙ ap Some (sym r.1)))
    ];
    whole = λ k c w h e. elim (alone k w e) [
      | inl q ↦ Contains-append_left xs ys (record { node = c; todo = w }) (subst (λ (x : Todo). Contains xs (record { node = c; todo = x })) (same k l t w q go e) (one_whole s.node l t xs one c (subst (λ x. IsLive es ns s.node x c) q h)))
      | inr q ↦ Contains-append_right xs ys (record { node = c; todo = w }) (subst (λ (x : Todo). Contains ys (record { node = c; todo = x })) (same k m u w q to e) (one_whole s.node m u ys two c (subst (λ x. IsLive es ns s.node x c) q h)))
    ];
    apart = pairs_append (λ a b. a.node ≢ b.node) xs ys (one_apart s.node l t xs one) (one_apart s.node m u ys two)
        (λ a b p q e. (let i = (one_sound s.node l t xs one a p).0 in let j = (one_sound s.node m u ys two b q).0 in
        let k : i.edge ≡ j.edge = omega (arith, i.number, j.number, e) in
        differ (ap (λ (x : Edge). x.label) (sym i.is ∙ ap (edge_at es) k ∙ j.is))));
  })
    where
      same : (k l : Label) (t w : Todo) → k ≡ l → step v g l (Some s.todo) ≡ Some t → step v g k (Some s.todo) ≡ Some w → t ≡ w
      same k l t w q go e = let p : Some t ≡ Some w = sym go ∙ ap (λ x. step v g x (Some s.todo)) (sym q) ∙ e in cc
