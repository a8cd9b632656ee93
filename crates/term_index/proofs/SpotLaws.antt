-- One turn of a walk.
use Rattle.std.proofs.Common.{◌≡◌, ◌<◌, ◌≤◌, ◌+◌, ◌-◌, ◌↔◌, inl, inr, ℕ, zero, suc, List, [], ◌∷◌, ◌++◌, length, get_or, Contains, Some, None, refl, sym, ◌∙◌, ap, subst, arith, length-append}
use Rattle.std.specs.Prelude.{AllPairs}
use Rattle.std.proofs.Math.ListN.{get_or-append}
use Rattle.std.proofs.Math.Seq.{get_or-append_right}
use Rattle.std.proofs.lemmas.Bool.{cases_lt}
use Rattle.std.proofs.lemmas.List.Elements.{Contains-append_left, Contains-append_right, Contains-append_cases, Contains-get_or}
use Rattle.term_index.specs.declared.view.View.{View}
use Rattle.term_index.specs.Pairs.{Posting}
use Rattle.term_index.specs.Rows.{Comes as After}
use Rattle.term_index.proofs.RowLemmas.{comes_next}
use Rattle.term_index.specs.declared.node.Edge.{Edge}
use Rattle.term_index.specs.Nodes.{Content}
use Rattle.term_index.specs.Paths.{PlaceLists, content_at, Holds, MakeTrie}
use Rattle.term_index.specs.Run.{Graph, step, run, nothing_left}
use Rattle.term_index.specs.Spots.{Spot, Covers, AreApart, AreNext, Comes, IsWalk}
use Rattle.term_index.proofs.RunLaws.{run_none}

module _ {A : Type 0} (R : A → A → Type 0) where
  pub pairs_front : (xs ys : List A) → AllPairs R (xs ++ ys) → AllPairs R xs
  pairs_front xs ys h i j d a b =
      let e = length-append xs ys in
      let x = get_or-append xs ys d i (omega arith) in
      let y = get_or-append xs ys d j b in
      subst (λ p. R p (get_or xs j d)) x (subst (λ p. R (get_or (xs ++ ys) i d) p) y (h i j d a (omega arith)))

  pub pairs_across : (xs ys : List A) → AllPairs R (xs ++ ys) → (x y : A) → Contains xs x → Contains ys y → R x y
  pairs_across xs ys h x y p q =
      let e = length-append xs ys in
      let k = length xs + q.0 in
      let here : get_or (xs ++ ys) p.0 x ≡ x = get_or-append xs ys x p.0 p.1 ∙ p.2 in
      let there : get_or (xs ++ ys) k x ≡ y = Rattle.std.proofs.lemmas.List.get_or-append-add xs ys q.0 x ∙ Rattle.std.proofs.lemmas.List.get_or_default ys q.0 x y q.1 ∙ q.2 in
      subst (λ a. R a y) here (subst (λ b. R (get_or (xs ++ ys) p.0 x) b) there (h p.0 k x (omega (arith, p.1)) (omega (arith, q.1))))

  pub pairs_append : (xs ys : List A) → AllPairs R xs → AllPairs R ys → ((x y : A) → Contains xs x → Contains ys y → R x y) → AllPairs R (xs ++ ys)
  pairs_append xs ys p q across i j d a b =
      let e = length-append xs ys in
      elim (cases_lt j (length xs)) [
        | inl k ↦ subst (λ x. R x (get_or (xs ++ ys) j d)) (sym (get_or-append xs ys d i (omega arith))) (subst (λ y. R (get_or xs i d) y) (sym (get_or-append xs ys d j k)) (p i j d a k))
        | inr k ↦ elim (cases_lt i (length xs)) [
          | inl m ↦ subst (λ x. R x (get_or (xs ++ ys) j d)) (sym (get_or-append xs ys d i m)) (subst (λ y. R (get_or xs i d) y) (sym (get_or-append_right xs ys j d k))
              (across (get_or xs i d) (get_or ys (j - length xs) d) (Contains-get_or xs i d m) (Contains-get_or ys (j - length xs) d (omega arith))))
          | inr m ↦ subst (λ x. R x (get_or (xs ++ ys) j d)) (sym (get_or-append_right xs ys i d m)) (subst (λ y. R (get_or ys (i - length xs) d) y) (sym (get_or-append_right xs ys j d k))
              (q (i - length xs) (j - length xs) d (omega arith) (omega arith)))
        ]
      ]

  pub pairs_weaker : (S : A → A → Type 0) (xs : List A) → ((x y : A) → Contains xs x → Contains xs y → R x y → S x y) → AllPairs R xs → AllPairs S xs
  pairs_weaker S xs f h i j d a b = f (get_or xs i d) (get_or xs j d) (Contains-get_or xs i d (omega arith)) (Contains-get_or xs j d b) (h i j d a b)

pub only : {A : Type 0} (x y : A) → Contains (x ∷ []) y → y ≡ x
only x y (zero, h, e) = sym e
only x y (suc k, h, e) = absurd (omega arith)

module _ (v : View) (g : Graph) (es : List Edge) (ps : PlaceLists) (ns : List Content) (a : MakeTrie es ps ns) where
  -- a spot with nothing left covers its own node alone
  pub covers_itself : (s : Spot) → s.todo ≡ nothing_left → Covers v g es s s.node
  covers_itself s e = ([], refl, ap Some e)

  pub covers_only : (s : Spot) → s.todo ≡ nothing_left → (m : ℕ) → Covers v g es s m → m ≡ s.node
  covers_only s e m ([], l, r) = sym l
  covers_only s e m (x ∷ ls, l, r) = let k : run v g ls None ≡ Some nothing_left = subst (λ t. run v g ls (step v g x (Some t)) ≡ Some nothing_left) e r in let j = run_none v g ls in absurd (cc)

  -- the walk comes to the leaf of its last spot
  pub walk_leaf : (front : List Spot) (s : Spot) (leaf : ℕ) → s.todo ≡ nothing_left → IsWalk v g es (front ++ s ∷ []) leaf → IsWalk v g es front s.node
  walk_leaf front s leaf e w = record {
    apart = pairs_front (AreApart v g es) front (s ∷ []) w.apart;
    leaf_apart = λ t c h. pairs_across (AreApart v g es) front (s ∷ []) w.apart t s c (0, omega arith, refl) s.node h (covers_itself s e);
  }

  -- the last spot gives way to the next ones
  pub walk_on : (front : List Spot) (s : Spot) (ts : List Spot) (leaf : ℕ) → AreNext v g es ns s ts → IsWalk v g es (front ++ s ∷ []) leaf → IsWalk v g es (front ++ ts) leaf
  walk_on front s ts leaf n w = record {
    apart = pairs_append (AreApart v g es) front ts (pairs_front (AreApart v g es) front (s ∷ []) w.apart) n.apart
        (λ x y p q m h k. pairs_across (AreApart v g es) front (s ∷ []) w.apart x s p (0, omega arith, refl) m h (n.sound y q m k));
    leaf_apart = λ t c h. elim (Contains-append_cases front ts t c) [
      | inl p ↦ w.leaf_apart t (Contains-append_left front (s ∷ []) t p) h
      | inr p ↦ w.leaf_apart s (Contains-append_right front (s ∷ []) s (0, omega arith, refl)) (n.sound t p leaf h)
    ];
  }

  -- what comes stays the same
  pub comes_on : (front : List Spot) (s : Spot) (ts : List Spot) (leaf place : ℕ) → AreNext v g es ns s ts → (p : Posting)
      → Comes v g es ns (front ++ ts) leaf place p ↔ Comes v g es ns (front ++ s ∷ []) leaf place p
  comes_on front s ts leaf place n p = (to, from)
    where
      to : Comes v g es ns (front ++ ts) leaf place p → Comes v g es ns (front ++ s ∷ []) leaf place p
      to (inl h) = inl h
      to (inr (m, t, c, h, k)) = elim (Contains-append_cases front ts t c) [
        | inl q ↦ inr (m, t, Contains-append_left front (s ∷ []) t q, h, k)
        | inr q ↦ inr (m, s, Contains-append_right front (s ∷ []) s (0, omega arith, refl), n.sound t q m h, k)
      ]

      last : (m : ℕ) (t : Spot) → Contains (s ∷ []) t → Covers v g es t m → Holds ns m p → Comes v g es ns (front ++ ts) leaf place p
      last m t q h k =
          let r = n.whole m p (subst (λ x. Covers v g es x m) (only s t q) h) k in
          inr (m, r.0, Contains-append_right front ts r.0 r.1, r.2, k)

      from : Comes v g es ns (front ++ s ∷ []) leaf place p → Comes v g es ns (front ++ ts) leaf place p
      from (inl h) = inl h
      from (inr (m, t, c, h, k)) = elim (Contains-append_cases front (s ∷ []) t c)
          [ inl q ↦ inr (m, t, Contains-append_left front ts t q, h, k) | inr q ↦ last m t q h k ]

  pub comes_leaf : (front : List Spot) (s : Spot) (leaf place : ℕ) → s.todo ≡ nothing_left → length (content_at ns leaf).pairs ≤ place → (p : Posting)
      → Comes v g es ns front s.node 0 p ↔ Comes v g es ns (front ++ s ∷ []) leaf place p
  comes_leaf front s leaf place e over p = (to, from)
    where
      to : Comes v g es ns front s.node 0 p → Comes v g es ns (front ++ s ∷ []) leaf place p
      to (inl (i, z, h, k)) = inr (s.node, s, Contains-append_right front (s ∷ []) s (0, omega arith, refl), covers_itself s e, (i, h, k))
      to (inr (m, t, c, h, k)) = inr (m, t, Contains-append_left front (s ∷ []) t c, h, k)

      last : (m : ℕ) (t : Spot) → Contains (s ∷ []) t → Covers v g es t m → Holds ns m p → Comes v g es ns front s.node 0 p
      last m t q h k =
          let r = covers_only s e m (subst (λ x. Covers v g es x m) (only s t q) h) in
          let j = subst (λ x. Holds ns x p) r k in
          inl (j.0, omega arith, j.1, j.2)

      from : Comes v g es ns (front ++ s ∷ []) leaf place p → Comes v g es ns front s.node 0 p
      from (inl (i, z, h, k)) = absurd (omega arith)
      from (inr (m, t, c, h, k)) = elim (Contains-append_cases front (s ∷ []) t c) [ inl q ↦ inr (m, t, q, h, k) | inr q ↦ last m t q h k ]

  -- the pair at the place is given
  pub comes_given : (spots : List Spot) (leaf place : ℕ) (p : Posting) → IsWalk v g es spots leaf → place < length (content_at ns leaf).pairs → get_or (content_at ns leaf).pairs place p ≡ p
      → (q : Posting) → Comes v g es ns spots leaf (place + 1) q ↔ (Comes v g es ns spots leaf place q × ¬ (q ≡ p))
  comes_given spots leaf place p w h e q = (to, from)
    where
      step_on : (After (content_at ns leaf).pairs (place + 1) q → After (content_at ns leaf).pairs place q × ¬ (q ≡ p)) × (After (content_at ns leaf).pairs place q × ¬ (q ≡ p) → After (content_at ns leaf).pairs (place + 1) q)
      step_on = comes_next (content_at ns leaf).pairs place p h e (a.pairs_once leaf) q

      to : Comes v g es ns spots leaf (place + 1) q → Comes v g es ns spots leaf place q × ¬ (q ≡ p)
      to (inl c) = let r = step_on.0 c in (inl r.0, r.1)
      to (inr (m, s, c, k, o)) = (inr (m, s, c, k, o), λ x. w.leaf_apart s c (subst (Covers v g es s) (a.one_place m leaf q o (place, h, subst (λ y. get_or (content_at ns leaf).pairs place y ≡ y) (sym x) e)) k))

      from : Comes v g es ns spots leaf place q × ¬ (q ≡ p) → Comes v g es ns spots leaf (place + 1) q
      from (inl c, d) = inl (step_on.1 (c, d))
      from (inr c, d) = inr c
