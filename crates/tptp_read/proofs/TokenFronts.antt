-- Fronts of a list of bytes: runs of one class, signs, and digits behind a mark.
use Rattle.std.proofs.Common.{◌≡◌, ℕ, ◌+◌, ◌≤◌, Bool, true, false, List, [], ◌∷◌, ◌++◌, length, take, drop, refl, ap, ◌∙◌, arith, length-append}
use Rattle.std.specs.Prelude.{◌&&◌, IsTrue}
use Rattle.std.specs.List.{list_all}
use Rattle.std.proofs.lemmas.List.{take_at, drop_at}
use Rattle.tptp_read.specs.Bytes.{is_sign, run}
use Rattle.tptp_read.specs.Scan.{optional}
use Rattle.tptp_read.specs.Table.{IsOptionalSign}

-- a front of this length, of which P holds
pub record Front (P : List ℕ → Type 0) (n : ℕ) (bs : List ℕ) : Type 0 where
  pub front : List ℕ
  pub rest : List ℕ
  pub whole : bs ≡ front ++ rest
  pub len : length front ≡ n
  pub is : P front

pub front_take : (P : List ℕ → Type 0) (n : ℕ) (bs : List ℕ) → (h : Front P n bs) → take n bs ≡ h.front
front_take P n bs h = ap (λ (xs : List ℕ). take n xs) h.whole ∙ take_at h.front h.rest n h.len

pub front_drop : (P : List ℕ → Type 0) (n : ℕ) (bs : List ℕ) → (h : Front P n bs) → drop n bs ≡ h.rest
front_drop P n bs h = ap (λ (xs : List ℕ). drop n xs) h.whole ∙ drop_at h.front h.rest n h.len

pub front_within : (P : List ℕ → Type 0) (n : ℕ) (bs : List ℕ) → Front P n bs → n ≤ length bs
front_within P n bs h = omega (arith, h.len, ap length h.whole, length-append h.front h.rest)

pub both_true : (a b : Bool) → IsTrue (a && b) → IsTrue a × IsTrue b
both_true true true h = (refl, refl)
both_true true false h = absurd cc
both_true false b h = absurd cc

pub and_true : (a b : Bool) → IsTrue a → IsTrue b → IsTrue (a && b)
and_true true true h k = refl
and_true true false h k = k
and_true false b h k = h

-- runs
abbrev pub AllPass : (ℕ → Bool) → List ℕ → Type 0
AllPass p ts = IsTrue (list_all p ts)

run_front_at : (p : ℕ → Bool) (b : ℕ) (bs : List ℕ) → Front (AllPass p) (run p bs) bs → (t : Bool) → p b ≡ t → Front (AllPass p) (run p (b ∷ bs)) (b ∷ bs)
run_front_at p b bs h true e = record { front = b ∷ h.front; rest = h.rest; whole = ap (λ (xs : List ℕ). b ∷ xs) h.whole; len = rw e (omega (arith, h.len)); is = and_true _ _ e h.is }
run_front_at p b bs h false e = record { front = []; rest = b ∷ bs; whole = refl; len = rw e refl; is = refl }

pub run_front : (p : ℕ → Bool) (bs : List ℕ) → Front (AllPass p) (run p bs) bs
run_front p [] = record { front = []; rest = []; whole = refl; len = refl; is = refl }
run_front p (b ∷ bs) = run_front_at p b bs (run_front p bs) (p b) refl

pub run_more : (p : ℕ → Bool) (ts rest : List ℕ) → AllPass p ts → run p (ts ++ rest) ≡ length ts + run p rest
run_more p [] rest all = omega arith
run_more p (t ∷ ts) rest all =
    let both = both_true (p t) (list_all p ts) all in
    let h = run_more p ts rest both.1 in
    rw both.0 (omega (arith, h))

pub run_none : (p : ℕ → Bool) (b : ℕ) (bs : List ℕ) → p b ≡ false → run p (b ∷ bs) ≡ 0
run_none p b bs e = rw e refl

-- signs
sign_front_at : (b : ℕ) (bs : List ℕ) → (t : Bool) → is_sign b ≡ t → Front IsOptionalSign (optional is_sign (b ∷ bs)) (b ∷ bs)
sign_front_at b bs true e = record { front = b ∷ []; rest = bs; whole = refl; len = rw e refl; is = e }
sign_front_at b bs false e = record { front = []; rest = b ∷ bs; whole = refl; len = rw e refl; is = tt }

pub sign_front : (bs : List ℕ) → Front IsOptionalSign (optional is_sign bs) bs
sign_front [] = record { front = []; rest = []; whole = refl; len = refl; is = tt }
sign_front (b ∷ bs) = sign_front_at b bs (is_sign b) refl
