-- The pairs of a node and their places after one is put or taken.
use Rattle.std.proofs.Common.{◌≡◌, ◌≢◌, ◌<◌, ◌≤◌, ◌+◌, ◌-◌, ◌^◌, ◌⊎◌, inl, inr, ℕ, List, [], ◌∷◌, ◌++◌, length, get_or, Contains, Bool, true, false, cond, ◌&&◌, nat_eq, nat_lt, Option, Some, None, refl, sym, ◌∙◌, ap, subst, arith, length-append}
use Rattle.std.specs.Prelude.{AllPairs}
use Rattle.std.specs.List.{swap_remove}
use Rattle.std.proofs.Math.ListN.{get_or-append}
use Rattle.std.proofs.Math.Seq.{get_or-append_seam}
use Rattle.std.proofs.lemmas.List.{get_or_default}
use Rattle.std.proofs.lemmas.List.Elements.{Contains-push_cases}
use Rattle.std.proofs.lemmas.Bool.Decides.{Decides-eqb, nat_tests}
use Rattle.inst_logic.specs.EqualLaws.{and_both, and_left, and_right}
use Rattle.term_bank.proofs.Nodes.{last_or_before}
use Rattle.term_index.specs.Pairs.{Posting, Removes}
use Rattle.term_index.specs.Found.{place_of, Changes, few, AreFound}
use Rattle.term_index.specs.Nodes.{Content}
use Rattle.term_index.specs.Paths.{content_at, Holds, KeepsPairs}
use Rattle.term_index.specs.State.{pairs_of}
use Rattle.term_index.specs.StateLaws.{stored_held}
use Rattle.term_index.proofs.Linking.{swapped, same_number}

abbrev pair_eq : Posting → Posting → Bool
pair_eq p q = nat_eq p.0 q.0 && nat_eq p.1 q.1

pair_same : (p q : Posting) → pair_eq p q ≡ true → p ≡ q
pair_same p q h =
    let x : p.0 ≡ q.0 = (Decides-eqb p.0 q.0).0 (and_left _ _ h) in
    let y : p.1 ≡ q.1 = (Decides-eqb p.1 q.1).0 (and_right (nat_eq p.0 q.0) _ h) in
    λ i. (x i, y i)

pair_itself : (p : Posting) → pair_eq p p ≡ true
pair_itself p = and_both _ _ ((Decides-eqb p.0 p.0).1 refl) ((Decides-eqb p.1 p.1).1 refl)

pair_differs : (p q : Posting) → ¬ (p ≡ q) → pair_eq p q ≡ false
pair_differs p q d = by (pair_eq p q) refl
  where
    by : (b : Bool) → pair_eq p q ≡ b → b ≡ false
    by true e = absurd (d (pair_same p q e))
    by false e = refl

change_here : (found more : List (Posting × ℕ)) (p : Posting) (w : Option ℕ) → Changes found more p w → (q : Posting) → p ≡ q → place_of more q ≡ w
change_here found more p w h q e = h q ∙ ap (λ b. cond b w (place_of found q)) (ap (pair_eq p) (sym e) ∙ pair_itself p)

change_other : (found more : List (Posting × ℕ)) (p : Posting) (w : Option ℕ) → Changes found more p w → (q : Posting) → ¬ (p ≡ q) → place_of more q ≡ place_of found q
change_other found more p w h q d = h q ∙ ap (λ b. cond b w (place_of found q)) (pair_differs p q d)

-- one of two numbers is the smaller one
order : (m n : ℕ) → (m ≤ n) ⊎ (n < m)
order m n = by (nat_lt n m) refl
  where
    by : (b : Bool) → nat_lt n m ≡ b → (m ≤ n) ⊎ (n < m)
    by true e = inr (grind (arith, nat_tests))
    by false e = inl (grind (arith, nat_tests))

-- a pair that is not at one of the first places, nor where the map says, is not there
pub absent_pair : (found : List (Posting × ℕ)) (ns : List Content) (node : ℕ) (p : Posting) → AreFound found ns → ((i : ℕ) → i < few → i < length (content_at ns node).pairs → ¬ (get_or (content_at ns node).pairs i p ≡ p))
    → ((i : ℕ) → place_of found p ≡ Some i → i < length (content_at ns node).pairs → ¬ (get_or (content_at ns node).pairs i p ≡ p)) → ¬ (Contains (content_at ns node).pairs p)
absent_pair found ns node p old first late h = elim (order few h.0) [ inl c ↦ late h.0 (old.placed node h.0 p c h.1 h.2) h.1 h.2 | inr c ↦ first h.0 c h.1 h.2 ]

-- one pair more
pub put_found : (found more : List (Posting × ℕ)) (ns ms : List Content) (node : ℕ) (p : Posting) → ((n : ℕ) → ¬ (Holds ns n p)) → AreFound found ns → (few ≤ length (content_at ns node).pairs → Changes found more p (Some (length (content_at ns node).pairs)))
    → (length (content_at ns node).pairs < few → more ≡ found) → (content_at ms node).pairs ≡ (content_at ns node).pairs ++ p ∷ [] → ((n : ℕ) → ¬ (n ≡ node) → content_at ms n ≡ content_at ns n) → p.1 < 2 ^ 32 → AreFound more ms
put_found found more ns ms node p absent old late first here others short = record {
  small = λ n q h. elim (same_number n node) [
    | inl e ↦ elim (Contains-push_cases (content_at ns node).pairs p q (subst (λ ys. Contains ys q) here (subst (λ m. Holds ms m q) e h))) [
      | inl k ↦ old.small node q k
      | inr k ↦ subst (λ (x : Posting). x.1 < 2 ^ 32) k short
    ]
    | inr d ↦ old.small n q (subst (λ (x : Content). Contains x.pairs q) (others n d) h)
  ];
  placed = λ n i q c w is. elim (same_number n node) [
    | inl e ↦ at i q c (subst (λ m. i < length (content_at ms m).pairs) e w) (subst (λ m. get_or (content_at ms m).pairs i q ≡ q) e is)
    | inr d ↦ before i q n c (subst (λ (x : Content). i < length x.pairs) (others n d) w) (subst (λ (x : Content). get_or x.pairs i q ≡ q) (others n d) is)
  ];
}
  where
    unmoved : (q : Posting) → ¬ (p ≡ q) → place_of more q ≡ place_of found q
    unmoved q d = elim (order few (length (content_at ns node).pairs)) [ inl c ↦ change_other found more p (Some (length (content_at ns node).pairs)) (late c) q d | inr c ↦ ap (λ xs. place_of xs q) (first c) ]

    before : (i : ℕ) (q : Posting) (n : ℕ) → few ≤ i → i < length (content_at ns n).pairs → get_or (content_at ns n).pairs i q ≡ q → place_of more q ≡ Some i
    before i q n c b h = unmoved q (λ e. absent n (i, b, subst (λ x. get_or (content_at ns n).pairs i x ≡ x) (sym e) h)) ∙ old.placed n i q c b h

    at : (i : ℕ) (q : Posting) → few ≤ i → i < length (content_at ms node).pairs → get_or (content_at ms node).pairs i q ≡ q → place_of more q ≡ Some i
    at i q l b h = elim (last_or_before i (length (content_at ns node).pairs) (omega (arith, b, ap length here, length-append (content_at ns node).pairs (p ∷ [])))) [
      | inl c ↦ before i q node l c (sym (get_or-append (content_at ns node).pairs (p ∷ []) q i c) ∙ ap (λ ys. get_or ys i q) (sym here) ∙ h)
      | inr s ↦ (let e : p ≡ q = sym (get_or-append_seam (content_at ns node).pairs p [] q) ∙ ap (λ k. get_or ((content_at ns node).pairs ++ p ∷ []) k q) (sym s) ∙ ap (λ ys. get_or ys i q) (sym here) ∙ h in
          change_here found more p (Some (length (content_at ns node).pairs)) (late (omega (arith, l, s))) q e ∙ ap Some (sym s))
    ]

-- one pair less: the last one takes its place
module _ (xs ys : List Posting) (p d : Posting) (i : ℕ) (w : i < length xs) (at : get_or xs i p ≡ p) (is : ys ≡ swap_remove xs i d) (once : AllPairs ◌≢◌ xs) where
  swap : (length ys + 1 ≡ length xs) × ((k : ℕ) → k < length ys → ¬ (k ≡ i) → get_or ys k p ≡ get_or xs k p) × (i < length ys → get_or ys i p ≡ get_or xs (length ys) p)
  swap = swapped xs ys i d p w is

  -- each item stands at one place
  pub one_at : (j k : ℕ) (e : Posting) → j < length xs → k < length xs → get_or xs j e ≡ get_or xs k e → j ≡ k
  one_at j k e a b h = elim (same_number j k) [ inl q ↦ q | inr q ↦ absurd (apart q) ]
    where
      apart : ¬ (j ≡ k) → ⊥
      apart q = by (nat_lt j k) refl
        where
          by : (t : Bool) → nat_lt j k ≡ t → ⊥
          by true s = once j k e (grind (arith, Rattle.std.proofs.lemmas.Bool.Decides.nat_tests)) b h
          by false s = once k j e (grind (arith, Rattle.std.proofs.lemmas.Bool.Decides.nat_tests)) a (sym h)

  from : (k : ℕ) → k < length ys → (j : ℕ) × (j < length xs) × (get_or ys k p ≡ get_or xs j p) × (((k ≡ i) × (j ≡ length ys)) ⊎ ((¬ (k ≡ i)) × (j ≡ k)))
  from k b = elim (same_number k i) [
    | inl e ↦ (length ys, omega (arith, swap.0), ap (λ m. get_or ys m p) e ∙ swap.2 (omega arith), inl (e, refl))
    | inr q ↦ (k, omega (arith, swap.0), swap.1 k b q, inr (q, refl))
  ]

  -- and none of them is the one that was taken
  not_taken : (k : ℕ) → k < length ys → ¬ (get_or ys k p ≡ p)
  not_taken k b h =
      let r = from k b in
      let e = one_at r.0 i p r.1 w (sym r.2 ∙ h ∙ sym at) in
      elim r.3 [ inl x ↦ omega (arith, x.0, x.1, e, b) | inr x ↦ x.0 (sym x.1 ∙ e) ]

  pub swap_once : AllPairs ◌≢◌ ys
  swap_once j k e a b h =
      let x = from j (omega arith) in
      let y = from k b in
      let s : get_or xs x.0 p ≡ get_or xs y.0 p = sym x.2 ∙ get_or_default ys j p e (omega arith) ∙ h ∙ get_or_default ys k e p b ∙ y.2 in
      let q = one_at x.0 y.0 p x.1 y.1 s in
      elim x.3 [ inl u ↦ elim y.3 [ inl v ↦ omega (arith, u.0, v.0) | inr v ↦ omega (arith, u.1, v.1, q, b) ] | inr u ↦ elim y.3 [ inl v ↦ omega (arith, u.1, v.1, q, a, b) | inr v ↦ omega (arith, u.1, v.1, q) ] ]

  pub swap_removes : Removes p xs ys
  swap_removes = ((i, w, at), λ q. (to q, back q))
    where
      to : (q : Posting) → Contains ys q → Contains xs q × ¬ (q ≡ p)
      to q (k, b, h) =
          let r = from k b in
          let s : get_or ys k p ≡ q = get_or_default ys k p q b ∙ h in
          ((r.0, r.1, get_or_default xs r.0 q p r.1 ∙ sym r.2 ∙ s), λ e. not_taken k b (s ∙ e))

      back : (q : Posting) → Contains xs q × ¬ (q ≡ p) → Contains ys q
      back q ((k, b, h), n) =
          let s : get_or xs k p ≡ q = get_or_default xs k p q b ∙ h in
          let other : ¬ (k ≡ i) = λ e. n (sym s ∙ ap (λ m. get_or xs m p) e ∙ at) in
          elim (last_or_before k (length ys) (omega (arith, b, swap.0))) [
            | inl c ↦ (k, c, get_or_default ys k q p c ∙ swap.1 k c other ∙ s)
            | inr e ↦ (let c : i < length ys = below (omega (arith, w, swap.0)) (λ z. other (e ∙ sym z)) in (i, c, get_or_default ys i q p c ∙ swap.2 c ∙ ap (λ m. get_or xs m p) (sym e) ∙ s))
          ]
        where
          below : i ≤ length ys → ¬ (i ≡ length ys) → i < length ys
          below u v = elim (same_number i (length ys)) [ inl e ↦ absurd (v e) | inr e ↦ grind arith ]

-- the places after that: the last pair takes the place in the map too, where that is not one of the first ones
pub take_found : (found more : List (Posting × ℕ)) (ns ms : List Content) (node i : ℕ) (p last d : Posting) → i < length (content_at ns node).pairs → get_or (content_at ns node).pairs i p ≡ p
    → (content_at ms node).pairs ≡ swap_remove (content_at ns node).pairs i d → ((n : ℕ) → ¬ (n ≡ node) → content_at ms n ≡ content_at ns n) → AllPairs ◌≢◌ (content_at ns node).pairs
    → ((m n : ℕ) (q : Posting) → Holds ns m q → Holds ns n q → m ≡ n) → get_or (content_at ns node).pairs (length (content_at ns node).pairs - 1) last ≡ last
    → (few ≤ i → (mid : List (Posting × ℕ)) × Changes found mid last (Some i) × Changes mid more p None) → (i < few → Changes found more last None) → AreFound found ns → AreFound more ms
take_found found more ns ms node i p last d w at is others once one end late first old = record {
  small = λ n q h. elim (same_number n node) [
    | inl e ↦ old.small node q (((swap_removes (content_at ns node).pairs (content_at ms node).pairs p d i w at is once).1 q).0 (subst (λ m. Holds ms m q) e h)).0
    | inr s ↦ old.small n q (subst (λ (x : Content). Contains x.pairs q) (others n s) h)
  ];
  placed = placed;
}
  where
    -- a pair that is neither the one that was taken nor the last one
    unmoved : (q : Posting) → ¬ (p ≡ q) → ¬ (last ≡ q) → place_of more q ≡ place_of found q
    unmoved q c e = elim (order few i) [
      | inl l ↦ (let m = late l in change_other m.0 more p None m.2 q c ∙ change_other found m.0 last (Some i) m.1 q e)
      | inr l ↦ change_other found more last None (first l) q e
    ]

    here : (k : ℕ) (q : Posting) → few ≤ k → k < length (content_at ms node).pairs → get_or (content_at ms node).pairs k q ≡ q → place_of more q ≡ Some k
    here k q l b h =
        let xs = (content_at ns node).pairs in
        let ys = (content_at ms node).pairs in
        let r = from xs ys p d i w at is once k b in
        let sw = swap xs ys p d i w at is once in
        let s : get_or ys k p ≡ q = get_or_default ys k p q b ∙ h in
        let t : get_or xs r.0 q ≡ q = get_or_default xs r.0 q p r.1 ∙ sym r.2 ∙ s in
        let c : ¬ (p ≡ q) = λ e. not_taken xs ys p d i w at is once k b (s ∙ sym e) in
        elim r.3 [
          | inl x ↦ (let e : last ≡ q = sym end ∙ get_or_default xs (length xs - 1) last q (omega (arith, w)) ∙ ap (λ m. get_or xs m q) (omega (arith, x.1, sw.0)) ∙ t in
              let m = late (omega (arith, l, x.0)) in
              change_other m.0 more p None m.2 q c ∙ change_here found m.0 last (Some i) m.1 q e ∙ ap Some (sym x.0))
          | inr x ↦ unmoved q c
              (λ e. (let z : r.0 ≡ length xs - 1 = one_at xs ys p d i w at is once r.0 (length xs - 1) q r.1 (omega (arith, w)) (t ∙ sym (subst (λ y. get_or xs (length xs - 1) y ≡ y) e end)) in omega (arith, z, x.1, b, sw.0)))
              ∙ old.placed node r.0 q (omega (arith, l, x.1)) r.1 t ∙ ap Some x.1
        ]

    placed : (n k : ℕ) (q : Posting) → few ≤ k → k < length (content_at ms n).pairs → get_or (content_at ms n).pairs k q ≡ q → place_of more q ≡ Some k
    placed n k q l b h = elim (same_number n node) [
      | inl e ↦ here k q l (subst (λ m. k < length (content_at ms m).pairs) e b) (subst (λ m. get_or (content_at ms m).pairs k q ≡ q) e h)
      | inr s ↦ (let b' : k < length (content_at ns n).pairs = subst (λ (x : Content). k < length x.pairs) (others n s) b in
          let h' : get_or (content_at ns n).pairs k q ≡ q = subst (λ (x : Content). get_or x.pairs k q ≡ q) (others n s) h in
          unmoved q (λ e. s (one n node q (k, b', h') (subst (Holds ns node) e (i, w, at))))
          (λ e. s (one n node q (k, b', h') (subst (Holds ns node) e (length (content_at ns node).pairs - 1, omega (arith, w), end)))) ∙ old.placed n k q l b' h')
    ]

-- the same with the same pairs
pub found_kept : (found : List (Posting × ℕ)) (ns ms : List Content) → KeepsPairs ns ms → AreFound found ns → AreFound found ms
found_kept found ns ms same old = record {
  small = λ n p h. old.small n p (subst (λ xs. Contains xs p) (same n) h);
  placed = λ n i p c w h. old.placed n i p c (subst (λ xs. i < length xs) (same n) w) (subst (λ xs. get_or xs i p ≡ p) (same n) h);
}

-- no pair has an entry that does not fit
pub too_large : (found : List (Posting × ℕ)) (ns : List Content) (p : Posting) → AreFound found ns → 2 ^ 32 ≤ p.1 → ¬ (Contains (pairs_of ns) p)
too_large found ns p old large h = let k = stored_held ns p h in omega (arith, large, old.small k.0 p k.2)
