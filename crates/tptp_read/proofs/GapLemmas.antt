-- A gap in two parts.
use Rattle.std.proofs.Common.{◌≡◌, ℕ, zero, suc, ◌+◌, ◌-◌, ◌<◌, ◌≤◌, List, [], ◌∷◌, length, drop, refl, sym, ap, ◌∙◌, arith}
use Rattle.std.proofs.Math.Dec.{eqb-suc-zero}
use Rattle.std.proofs.lemmas.List.{drop-drop}
use Rattle.tptp_read.specs.Gap.{piece, gap_from, gap}

-- the known bytes belong to the gap
pub gap_known : (k : ℕ) (bs : List ℕ) → k ≤ length bs → gap_from k bs ≡ k + gap (drop k bs)
gap_known zero bs le = omega arith
gap_known (suc k) [] le = absurd (omega arith)
gap_known (suc k) (b ∷ bs) le = let h = gap_known k bs (omega arith) in omega (arith, h)

pub gap_step : (n : ℕ) (bs : List ℕ) → piece bs ≡ n → 0 < n → n ≤ length bs → gap bs ≡ n + gap (drop n bs)
gap_step zero bs e lt le = absurd (omega arith)
gap_step (suc n) [] e lt le = absurd (omega arith)
gap_step (suc n) (b ∷ bs) e lt le =
    let h = gap_known n bs (omega arith) in
    let one : gap (b ∷ bs) ≡ gap_from (suc n - 1) bs + 1 = rw (e, eqb-suc-zero n) refl in
    let two : suc n - 1 ≡ n = omega arith in
    one ∙ ap (λ k. gap_from k bs + 1) two ∙ omega (arith, h)

-- a piece at a place inside a list
pub gap_goes_on : (bs : List ℕ) (n k whole : ℕ) → k ≡ piece (drop n bs) → (k ≡ 0 → ⊥) → k ≤ length (drop n bs) → n + gap (drop n bs) ≡ whole → n + k + gap (drop (n + k) bs) ≡ whole
gap_goes_on bs n k whole e ne le so_far =
    let step = gap_step k (drop n bs) (sym e) (omega arith) le in
    let joined : gap (drop k (drop n bs)) ≡ gap (drop (n + k) bs) = ap gap (drop-drop k n bs) in
    omega arith
