-- What std's `parse` reads of a numeral.
use Rattle.std.proofs.Common.{◌≡◌, ℕ, ◌<◌, ◌≤◌, ◌^◌, List, Err, true, arith, rules}
use Rattle.std.specs.Char.{is_ascii_digit}
use Rattle.std.specs.List.{list_all}
use Rattle.std.specs.Str.Parse.{ParsesUnsigned, digits_value}
use Rattle.std.proofs.lemmas.Str.Parse.{IsDigitsTest, IsNumeralModel, numerals_by_value, parse_digits}
use Rattle.command_words.specs.Numbers.{IsNumber}

digit_texts : IsDigitsTest (λ ds. list_all is_ascii_digit ds ≡ true)
digit_texts = search rules

digit_values : IsNumeralModel (λ ds. list_all is_ascii_digit ds ≡ true) (digits_value 10)
digit_values = numerals_by_value _ digit_texts

-- a text that `parse` refuses is no number in its range
pub refused_is_no_number : (E : Type 0) (text : List ℕ) (most greatest : ℕ) (e : E) → ParsesUnsigned 64 10 text (Err e) → greatest < 2 ^ 64
    → (n : ℕ) → IsNumber most text n × (n ≤ greatest) → ⊥
refused_is_no_number E text most greatest e h limit n (number, small) =
    parse_digits digit_values 64 text (Err e) h number.digits (number.some, omega (arith, number.value))
