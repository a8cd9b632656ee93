-- The digits of the formats that are read.
use Rattle.std.proofs.Common.{◌≡◌, ◌≢◌, inl, inr, ℕ, true, List, ap, ◌∙◌, arith}
use Rattle.std.specs.Prelude.{codes, decimal}
use Rattle.std.proofs.lemmas.Fmt.{decimal_digit}
use Rattle.cert_format.specs.Formats.{is_known}
use Rattle.cert_format.proofs.Formats.{read_format}

pub one_digits : decimal 1 ≡ codes "1"
one_digits = decimal_digit 1 (omega arith)

pub two_digits : decimal 2 ≡ codes "2"
two_digits = decimal_digit 2 (omega arith)

pub three_digits : decimal 3 ≡ codes "3"
three_digits = decimal_digit 3 (omega arith)

pub no_known_word : (w : List ℕ) → w ≢ codes "1" → w ≢ codes "2" → w ≢ codes "3" → (format : ℕ) → is_known format ≡ true → w ≢ decimal format
no_known_word w one two three format k e =
    elim (read_format format k) [ inl f ↦ one (e ∙ ap decimal f ∙ one_digits) | inr (inl f) ↦ two (e ∙ ap decimal f ∙ two_digits) | inr (inr f) ↦ three (e ∙ ap decimal f ∙ three_digits) ]
