-- Numbers that are noted at literals.
use Rattle.std.specs.Prelude.{◌≡◌, ◌≢◌, ℕ, List, [], Contains, slice_index_or}
use Rattle.inst_logic.specs.declared.signed.Signed.{Signed}
use Rattle.compact_lists.specs.Codes.{code_of}

-- what is noted at the literal
abbrev pub numbers_at : List (List ℕ) → Signed ℕ → List ℕ
numbers_at lists l = slice_index_or lists (code_of l) []

abbrev pub IsNotedAt : List (List ℕ) → Signed ℕ → ℕ → Type 0
IsNotedAt lists l number = Contains (numbers_at lists l) number

-- what is noted stays
abbrev pub KeepsNotes : List (List ℕ) → List (List ℕ) → Type 0
KeepsNotes old new = (l : Signed ℕ) (number : ℕ) → IsNotedAt old l number → IsNotedAt new l number

-- what is noted at other literals is the same
abbrev pub KeepsOthers : List (List ℕ) → List (List ℕ) → Signed ℕ → Type 0
KeepsOthers old new l = (m : Signed ℕ) → m ≢ l → numbers_at new m ≡ numbers_at old m
