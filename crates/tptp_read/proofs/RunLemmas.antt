-- Runs and closings from a place on.
use Rattle.std.proofs.Common.{◌≡◌, ℕ, ◌+◌, ◌<◌, Bool, true, false, List, ◌∷◌, length, get_or, drop, refl, drop-cons, add-one}
use Rattle.tptp_read.specs.Bytes.{run}

cons_at : (bs : List ℕ) (n : ℕ) → n < length bs → drop n bs ≡ get_or bs n 0 ∷ drop (n + 1) bs
cons_at bs n lt = rw (add-one, drop-cons bs n 0) refl

pub run_step : (p : ℕ → Bool) (bs : List ℕ) (n : ℕ) → n < length bs → p (get_or bs n 0) ≡ true → run p (drop n bs) ≡ run p (drop (n + 1) bs) + 1
run_step p bs n lt e = rw (cons_at bs n lt, e) refl

pub run_stop : (p : ℕ → Bool) (bs : List ℕ) (n : ℕ) → n < length bs → p (get_or bs n 0) ≡ false → run p (drop n bs) ≡ 0
run_stop p bs n lt e = rw (cons_at bs n lt, e) refl
