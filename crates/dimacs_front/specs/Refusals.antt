-- Why a text is not read as clauses: the first token that is out of place, or whose number is too great, decides, and the number of
-- clauses is judged where all tokens are in place.
use Rattle.std.specs.Prelude.{◌≡◌, ◌≢◌, ◌⊎◌, ℕ, ◌<◌, ◌≤◌, List, [], ◌∷◌, ◌++◌, length, codes, All, ⊤}
use Rattle.inst_logic.specs.Codes as byte
use Rattle.inst_logic.specs.declared.signed.Signed.{Signed}
use Rattle.dimacs_front.specs.Lines.{Placed, tokens, end_line}
use Rattle.dimacs_front.specs.Form.{words_on}
use Rattle.dimacs_front.specs.Dimacs.{Spells, SpellsLiteral, SpellsClauses, HasHeader}
use Rattle.dimacs_front.specs.declared.error.DimacsError.{DimacsError}
use Rattle.dimacs_front.specs.declared.error.DimacsError.TheVariants.{Syntax, Range, Count, Limit, Memory}
use Rattle.dimacs_front.specs.declared.header.Header.{Header}

-- the words begin with `p cnf V`
pub record HasVariables (words : List (List ℕ)) (vars : ℕ) (more : List (List ℕ)) : Type 0 where
  pub word : List ℕ
  pub all : words ≡ codes "p" ∷ codes "cnf" ∷ word ∷ more
  pub spelled : Spells vars word

-- the first word is a number
abbrev pub BeginsWithNumber : List (List ℕ) → Type 0
BeginsWithNumber [] = ⊥
BeginsWithNumber (word ∷ more) = (n : ℕ) × Spells n word

-- Why the tokens have no header, each refusal with its cause; `end` is the line behind the last one.
pub data IsHeaderRefusal (end : ℕ) (ts : List Placed) (e : DimacsError) : Type 0 where
  no_header : ts ≡ [] → e ≡ Syntax end → IsHeaderRefusal end ts e
  no_variables : (t : Placed) (us : List Placed) → ts ≡ t ∷ us → ((vars : ℕ) (more : List (List ℕ)) → ¬ HasVariables (words_on t.line ts) vars more) → e ≡ Syntax t.line → IsHeaderRefusal end ts e
  too_many_variables : (t : Placed) (us : List Placed) → ts ≡ t ∷ us → (vars : ℕ) (more : List (List ℕ)) → HasVariables (words_on t.line ts) vars more → 1000000 < vars → e ≡ Limit → IsHeaderRefusal end ts e
  no_count : (t : Placed) (us : List Placed) → ts ≡ t ∷ us → (vars : ℕ) (more : List (List ℕ)) → HasVariables (words_on t.line ts) vars more → vars ≤ 1000000 → ¬ BeginsWithNumber more → e ≡ Syntax t.line
      → IsHeaderRefusal end ts e

-- the token stands behind the header's line, and is `0` or a literal of one of the first variables
abbrev pub IsInPlace : Header → Placed → Type 0
IsInPlace h t = (t.line ≢ h.line) × ((t.text ≡ byte.digit_zero ∷ []) ⊎ ((l : Signed ℕ) × SpellsLiteral l t.text × (l.atom < h.vars)))

-- the token stands on the header's line, or is neither `0` nor a literal
abbrev pub IsOutOfPlace : Header → Placed → Type 0
IsOutOfPlace h t = (t.line ≡ h.line) ⊎ ((t.text ≢ byte.digit_zero ∷ []) × ((l : Signed ℕ) → ¬ SpellsLiteral l t.text))

-- Why the tokens behind the header are not its clauses, each refusal with its cause.
pub data IsClauseRefusal (end : ℕ) (h : Header) (ts : List Placed) (e : DimacsError) : Type 0 where
  out_of_place : (before : List Placed) (t : Placed) (us : List Placed) → ts ≡ before ++ t ∷ us → All (IsInPlace h) before → IsOutOfPlace h t → e ≡ Syntax t.line → IsClauseRefusal end h ts e
  above_variables : (before : List Placed) (t : Placed) (us : List Placed) → ts ≡ before ++ t ∷ us → All (IsInPlace h) before → t.line ≢ h.line → (l : Signed ℕ) → SpellsLiteral l t.text → h.vars ≤ l.atom → e ≡ Range t.line
      → IsClauseRefusal end h ts e
  within_clause : All (IsInPlace h) ts → ((clauses : List (List (Signed ℕ))) → ¬ SpellsClauses h.vars ts clauses) → e ≡ Syntax end → IsClauseRefusal end h ts e
  other_count : All (λ t. t.line ≢ h.line) ts → (clauses : List (List (Signed ℕ))) → SpellsClauses h.vars ts clauses → length clauses ≢ h.count → e ≡ Count (length clauses) → IsClauseRefusal end h ts e

-- the text has no header, or behind it are not its clauses
pub data IsRefusal (text : List ℕ) (e : DimacsError) : Type 0 where
  of_header : IsHeaderRefusal (end_line text) (tokens text) e → IsRefusal text e
  of_clauses : (h : Header) (rest : List Placed) → HasHeader (tokens text) h rest → IsClauseRefusal (end_line text) h rest e → IsRefusal text e

-- the text is refused for this, or memory was wanted
abbrev pub IsRefusedFor : List ℕ → DimacsError → Type 0
IsRefusedFor text Memory = ⊤
IsRefusedFor text e = IsRefusal text e
