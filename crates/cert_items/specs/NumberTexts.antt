-- Numbers up to a closing bracket at the front of a text, one by one, each with a mark in front.
use Rattle.std.specs.Prelude.{◌≡◌, ◌≢◌, ℕ, List, [], ◌∷◌, ◌++◌, Bool, true, false, decimal}
use Rattle.std.specs.List.{list_all}
use Rattle.cert_format.specs.LineMachine.{is_number}
use Rattle.cert_format.specs.LineTexts.{more_numbers, numbers}
use Rattle.inst_logic.specs.Codes as byte

-- a number that ends the list, or has another one behind it
abbrev pub number_end : Bool → List ℕ → List ℕ
number_end true rest = byte.closing_bracket ∷ rest
number_end false rest = byte.comma ∷ rest

-- numbers that are done, each with a comma behind it
abbrev pub before_numbers : List ℕ → List ℕ → List ℕ → List ℕ
before_numbers mark [] rest = rest
before_numbers mark (n ∷ ns) rest = mark ++ (decimal n ++ byte.comma ∷ before_numbers mark ns rest)

abbrev pub read_numbers : Bool → List ℕ → List ℕ → List ℕ → List ℕ
read_numbers true mark ns rest = numbers mark ns rest
read_numbers false mark ns rest = before_numbers mark ns rest

-- these numbers have been read
pub record HasNumbers (mark list : List ℕ) (ended : Bool) (bytes rest : List ℕ) : Type 0 where
  pub is : bytes ≡ read_numbers ended mark list rest
  pub fit : list_all is_number list ≡ true

-- no number of a list is at the front of the text
abbrev pub NoNumberHead : List ℕ → List ℕ → Type 0
NoNumberHead mark rest = (n : ℕ) (ns after : List ℕ) → is_number n ≡ true → list_all is_number ns ≡ true → rest ≢ mark ++ (decimal n ++ more_numbers mark ns after)

-- no numbers, of which there is one, are at the front of the text
abbrev pub NoSomeNumbers : List ℕ → List ℕ → Type 0
NoSomeNumbers mark bytes = (n : ℕ) (ns rest : List ℕ) → list_all is_number (n ∷ ns) ≡ true → bytes ≢ numbers mark (n ∷ ns) rest

-- no numbers are at the front of the text
abbrev pub NoNumbers : List ℕ → List ℕ → Type 0
NoNumbers mark bytes = (ns rest : List ℕ) → list_all is_number ns ≡ true → bytes ≢ numbers mark ns rest
