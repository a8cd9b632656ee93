-- What stands behind clauses at the front of a text: origins, what covers a clause, and which side of which members.
use Rattle.std.specs.Prelude.{◌≡◌, ◌≢◌, ◌<◌, ◌^◌, ℕ, List, [], ◌∷◌, ◌++◌, true, decimal, codes}
use Rattle.std.specs.List.{list_all}
use Rattle.inst_calculus.specs.Entries.{Origin}
use Rattle.cert_format.specs.Certificate.{By, Side}
use Rattle.cert_format.specs.LineMachine.{is_number, fits_origin}
use Rattle.cert_format.specs.LineTexts.{numbers, origin_text, origin_is_printable, by_text, by_is_printable}
use Rattle.cert_format.specs.Lines.{side_word}
use Rattle.cert_items.specs.declared.origin.Instance.{Instance}
use Rattle.inst_logic.specs.Codes as byte

-- no origin of a text in the format is at the front
abbrev pub NoOrigin : ℕ → List ℕ → Type 0
NoOrigin format bytes = (o : Origin) (rest : List ℕ) → origin_is_printable o ≡ true → fits_origin format o ≡ true → bytes ≢ origin_text o rest

-- nothing that covers a clause is at the front
abbrev pub NoBy : List ℕ → Type 0
NoBy bytes = (by : By) (rest : List ℕ) → by_is_printable by ≡ true → bytes ≢ by_text by rest

-- two members, and one side of them, up to what covers it
abbrev pub members_text : ℕ → ℕ → List ℕ → List ℕ
members_text left right rest = codes "cover(m" ++ (decimal left ++ byte.comma ∷ byte.letter_m ∷ (decimal right ++ byte.comma ∷ rest))

abbrev pub side_text : ℕ → ℕ → Side → List ℕ → List ℕ
side_text left right side rest = members_text left right (side_word side ++ (codes "),[" ++ rest))

-- ---- the numbers of origins

-- the numbers of an instance, up to the mark behind them
abbrev pub instance_text : Instance → List ℕ → List ℕ
instance_text i rest = decimal i.from ++ byte.comma ∷ (decimal i.place ++ byte.comma ∷ byte.letter_m ∷ (decimal i.partner ++ byte.comma ∷ (decimal i.other ++ rest)))

pub record InstanceFits (i : Instance) : Type 0 where
  pub from : i.from < 2 ^ 64
  pub place : i.place < 2 ^ 64
  pub partner : i.partner < 2 ^ 64
  pub other : i.other < 2 ^ 64

-- the places and the premises of a part, up to the parenthesis behind them
abbrev pub lists_text : List ℕ → List ℕ → List ℕ → List ℕ
lists_text keep premises rest = byte.opening_bracket ∷ numbers [] keep (byte.comma ∷ byte.opening_bracket ∷ numbers (byte.letter_m ∷ []) premises (byte.closing_parenthesis ∷ rest))

pub record ListsFit (ks ds : List ℕ) : Type 0 where
  pub keep : list_all is_number ks ≡ true
  pub premises : list_all is_number ds ≡ true
