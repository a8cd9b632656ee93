-- Pairs whose entries are counted.
use Rattle.std.proofs.Common.{◌≡◌, ◌≤◌, ◌+◌, ℕ, List, Contains, inl, inr, ap, arith}
use Rattle.term_index.specs.Pairs.{Posting, Adds}

-- no entry is greater
abbrev pub AreCounted : List Posting → ℕ → Type 0
AreCounted ps n = (p : Posting) → Contains ps p → p.1 ≤ n

pub one_counted : (ps qs : List Posting) (atom n m : ℕ) → m ≡ n + 1 → Adds (atom, n + 1) ps qs → AreCounted ps n → AreCounted qs m
one_counted ps qs atom n m next added h p k = elim ((added p).0 k)
    [ inl e ↦ (let s : p.1 ≡ n + 1 = ap (λ (x : Posting). x.1) e in omega (arith, s, next)) | inr c ↦ (let r = h p c in omega (arith, r, next)) ]

pub not_yet : (ps : List Posting) (atom n : ℕ) → AreCounted ps n → ¬ (Contains ps (atom, n + 1))
not_yet ps atom n h k = let r = h (atom, n + 1) k in omega (arith, r)
