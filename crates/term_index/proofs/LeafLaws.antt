-- The nodes at which pairs end.
use Rattle.std.proofs.Common.{◌≡◌, ◌<◌, ◌≤◌, inl, inr, ℕ, zero, suc, List, [], ◌∷◌, ◌++◌, length, get_or, Contains, refl, sym, ◌∙◌, ap, subst, arith, length-append, append-nil}
use Rattle.std.proofs.lemmas.List.Elements.{Contains-append_left, Contains-append_right, Contains-append_cases, Contains-get_or}
use Rattle.std.proofs.Math.ListN.{get_or-append}
use Rattle.std.proofs.Math.Seq.{get_or-append_seam}
use Rattle.term_bank.proofs.Nodes.{last_or_before}
use Rattle.term_index.specs.Pairs.{Posting}
use Rattle.term_index.specs.Nodes.{Content}
use Rattle.term_index.specs.Paths.{content_at, Holds}
use Rattle.term_index.specs.Frames.{leaf_of, leaf_at, leaves_before}

-- one node
here : (ps : List Posting) (n : ℕ) (p : Posting) → Contains ps p → Contains (leaf_of ps n) n
here [] n p h = absurd (omega (arith, h.1))
here (x ∷ ps) n p h = (0, omega arith, refl)

is_here : (ps : List Posting) (n c : ℕ) → Contains (leaf_of ps n) c → (n ≡ c) × ((p : Posting) × Contains ps p)
is_here [] n c h = absurd (omega (arith, h.1))
is_here (x ∷ ps) n c (zero, w, e) = (e, (x, (0, omega arith, refl)))
is_here (x ∷ ps) n c (suc k, w, e) = absurd (omega arith)

few_here : (ps : List Posting) (n : ℕ) → length (leaf_of ps n) ≤ 1
few_here [] n = omega arith
few_here (x ∷ ps) n = omega arith

pub leaf_in : (ns : List Content) (k c : ℕ) (p : Posting) → c < k → Holds ns c p → Contains (leaves_before ns k) c
leaf_in ns zero c p w h = absurd (omega arith)
leaf_in ns (suc k) c p w h = elim (last_or_before c k (omega arith)) [
  | inl b ↦ Contains-append_left (leaves_before ns k) (leaf_at ns k) c (leaf_in ns k c p b h)
  | inr e ↦ Contains-append_right (leaves_before ns k) (leaf_at ns k) c (subst (λ m. Contains (leaf_at ns m) c) e (here (content_at ns c).pairs c p h))
]

pub leaf_is : (ns : List Content) (k c : ℕ) → Contains (leaves_before ns k) c → (c < k) × ((p : Posting) × Holds ns c p)
leaf_is ns zero c h = absurd (omega (arith, h.1))
leaf_is ns (suc k) c h = elim (Contains-append_cases (leaves_before ns k) (leaf_at ns k) c h) [
  | inl x ↦ (let r = leaf_is ns k c x in (omega (arith, r.0), r.1))
  | inr x ↦ (let r = is_here (content_at ns k).pairs k c x in (omega (arith, r.0), subst (λ m. (p : Posting) × Holds ns m p) r.0 r.1))
]

pub leaves_few : (ns : List Content) (k : ℕ) → length (leaves_before ns k) ≤ k
leaves_few ns zero = omega arith
leaves_few ns (suc k) = omega (arith, length-append (leaves_before ns k) (leaf_at ns k), leaves_few ns k, few_here (content_at ns k).pairs k)

-- no node is there twice
pub leaves_once : (ns : List Content) (k i j : ℕ) → i < length (leaves_before ns k) → j < length (leaves_before ns k) → get_or (leaves_before ns k) i 0 ≡ get_or (leaves_before ns k) j 0 → i ≡ j
leaves_once ns zero i j b d e = absurd (omega arith)
leaves_once ns (suc k) i j b d e = by (leaves_once ns k) (content_at ns k).pairs b d e
  where
    by : ((i j : ℕ) → i < length (leaves_before ns k) → j < length (leaves_before ns k) → get_or (leaves_before ns k) i 0 ≡ get_or (leaves_before ns k) j 0 → i ≡ j)
        → (ps : List Posting) → i < length (leaves_before ns k ++ leaf_of ps k) → j < length (leaves_before ns k ++ leaf_of ps k) → get_or (leaves_before ns k ++ leaf_of ps k) i 0 ≡ get_or (leaves_before ns k ++ leaf_of ps k) j 0 → i ≡ j
    by before [] b d e =
        let s = append-nil (leaves_before ns k) in
        before i j (subst (λ xs. i < length xs) s b) (subst (λ xs. j < length xs) s d) (subst (λ xs. get_or xs i 0 ≡ get_or xs j 0) s e)
    by before (p ∷ ps) b d e =
        let xs = leaves_before ns k in
        let len = length-append xs (k ∷ []) in
        let old : (m : ℕ) → m < length xs → get_or (xs ++ k ∷ []) m 0 < k = (λ m w. (let r = leaf_is ns k (get_or xs m 0) (Contains-get_or xs m 0 w) in omega (arith, r.0, get_or-append xs (k ∷ []) 0 m w))) in
        let new : get_or (xs ++ k ∷ []) (length xs) 0 ≡ k = get_or-append_seam xs k [] 0 in
        elim (last_or_before i (length xs) (omega (arith, b, len))) [
          | inl u ↦ elim (last_or_before j (length xs) (omega (arith, d, len))) [
            | inl w ↦ before i j u w (sym (get_or-append xs (k ∷ []) 0 i u) ∙ e ∙ get_or-append xs (k ∷ []) 0 j w)
            | inr q ↦ (let z = e ∙ ap (λ m. get_or (xs ++ k ∷ []) m 0) q ∙ new in absurd (omega (arith, old i u, z)))
          ]
          | inr q ↦ elim (last_or_before j (length xs) (omega (arith, d, len))) [
            | inl w ↦ (let z = sym e ∙ ap (λ m. get_or (xs ++ k ∷ []) m 0) q ∙ new in absurd (omega (arith, old j w, z)))
            | inr r ↦ q ∙ sym r
          ]
        ]
