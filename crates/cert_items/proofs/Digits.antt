-- The value of the first digits, and how large it can be.
use Rattle.std.proofs.Common.{◌≡◌, ◌+◌, ◌*◌, ◌-◌, ◌≤◌, ◌<◌, ◌^◌, ℕ, suc, zero, List, [], ◌∷◌, true, cond, length, take, drop, get_or, drop-cons, refl, ap, ◌∙◌, arith}
use Rattle.std.specs.Char.{is_ascii_digit}
use Rattle.cert_format.specs.Digits.{value}
use Rattle.cert_format.specs.Runs.{run}
use Rattle.cert_format.proofs.Digits.{value_grows}

-- more digits are no smaller number
pub value_take : (bytes : List ℕ) (m k n : ℕ) → m ≤ k → value n (take m bytes) ≤ value n (take k bytes)
value_take [] zero k n h = value_grows (take k []) n
value_take [] (suc m) zero n h = absurd (omega arith)
value_take [] (suc m) (suc k) n h = omega arith
value_take (b ∷ bs) zero k n h = value_grows (take k (b ∷ bs)) n
value_take (b ∷ bs) (suc m) zero n h = absurd (omega arith)
value_take (b ∷ bs) (suc m) (suc k) n h = value_take bs m k (n * 10 + (b - 48)) (omega arith)

-- one digit more
pub value_next : (bytes : List ℕ) (len n : ℕ) → len < length bytes → value n (take (suc len) bytes) ≡ value n (take len bytes) * 10 + (get_or bytes len 0 - 48)
value_next [] len n h = absurd (omega arith)
value_next (b ∷ bs) zero n h = refl
value_next (b ∷ bs) (suc len) n h = value_next bs len (n * 10 + (b - 48)) (omega arith)

-- the digits go on behind one
pub run_next : (bytes : List ℕ) (len : ℕ) → len < length bytes → is_ascii_digit (get_or bytes len 0) ≡ true → run is_ascii_digit (drop len bytes) ≡ 1 + run is_ascii_digit (drop (suc len) bytes)
run_next bytes len h d = ap (run is_ascii_digit) (drop-cons bytes len 0 h) ∙ ap (λ b. cond b (1 + run is_ascii_digit (drop (suc len) bytes)) 0) d

-- 10 to the power n, which is above every number of n digits
pub tens : ℕ → ℕ
tens zero = 1
tens (suc n) = tens n * 10

tens_positive : (n : ℕ) → 1 ≤ tens n
unfolding tens
tens_positive zero = omega arith
tens_positive (suc n) = let k = tens_positive n in omega (arith, k)

tens_grow : (m n : ℕ) → m ≤ n → tens m ≤ tens n
unfolding tens
tens_grow zero n h = tens_positive n
tens_grow (suc m) zero h = absurd (omega arith)
tens_grow (suc m) (suc n) h = let k = tens_grow m n (omega arith) in omega (arith, k)

-- the number of no digits, and one with a digit more
pub first_below : 0 < tens 0
first_below = tens_positive 0

pub next_below : (n len d : ℕ) → n < tens len → d < 10 → n * 10 + d < tens (len + 1)
unfolding tens
next_below n len d h k = let e : tens (len + 1) ≡ tens len * 10 = ap tens (let i : len + 1 ≡ suc len = omega arith in i) in omega (arith, e)

-- up to 19 digits the number fits
pub tens_fit : (n len : ℕ) → n < tens len → len ≤ 19 → n < 2 ^ 64
unfolding tens
tens_fit n len h k =
    let most = tens_grow len 19 k in
    let is : tens 19 ≡ 10000000000000000000 = refl in
    omega (arith, most, is)
