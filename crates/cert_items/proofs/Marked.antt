-- Numbers with a mark behind them.
use Rattle.std.proofs.Common.{◌≡◌, ◌≢◌, ℕ, ◌^◌, ◌<◌, false, List, ◌∷◌, ◌++◌, refl, sym, ◌∙◌}
use Rattle.std.specs.Prelude.{decimal}
use Rattle.std.specs.Char.{is_ascii_digit}
use Rattle.cert_format.specs.Runs.{Ends}
use Rattle.cert_format.proofs.Digits.{numbers_once}
use Rattle.cert_format.proofs.Marked.{marked_once}

-- another mark stands behind the number
pub other_mark : (m b : ℕ) (bytes after : List ℕ) → bytes ≡ decimal m ++ after → m < 2 ^ 64 → Ends is_ascii_digit after → is_ascii_digit b ≡ false → ((rest : List ℕ) → after ≢ b ∷ rest) → (n : ℕ) (rest : List ℕ) → n < 2 ^ 64 → bytes ≢ decimal n ++ b ∷ rest
other_mark m b bytes after is h ends d bad n rest k e =
    let r = numbers_once m n after (b ∷ rest) h k ends d (sym is ∙ e) in
    bad rest r.1

-- behind the first number and its comma there is no second one
pub no_second : (m b : ℕ) (bytes after : List ℕ) → bytes ≡ decimal m ++ 44 ∷ after → m < 2 ^ 64 → ((n : ℕ) (rest : List ℕ) → n < 2 ^ 64 → after ≢ decimal n ++ b ∷ rest) → (k n : ℕ) (rest : List ℕ) → k < 2 ^ 64 → n < 2 ^ 64 → bytes ≢ decimal k ++ 44 ∷ (decimal n ++ b ∷ rest)
no_second m b bytes after is h bad k n rest p q e =
    let r = marked_once m k 44 after (decimal n ++ b ∷ rest) h p refl (sym is ∙ e) in
    bad n rest q r.1

-- two numbers are one reading
pub pair_once : (a p m n b : ℕ) (x y : List ℕ) → a < 2 ^ 64 → p < 2 ^ 64 → m < 2 ^ 64 → n < 2 ^ 64 → is_ascii_digit b ≡ false → decimal a ++ 44 ∷ (decimal p ++ b ∷ x) ≡ decimal m ++ 44 ∷ (decimal n ++ b ∷ y) → x ≡ y
pair_once a p m n b x y h k i j d e =
    let r = marked_once a m 44 (decimal p ++ b ∷ x) (decimal n ++ b ∷ y) h i refl e in
    (marked_once p n b x y k j d r.1).1
