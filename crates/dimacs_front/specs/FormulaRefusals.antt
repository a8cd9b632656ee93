-- Why a text is not read as a formula: as for clauses, with what can be wrong with the lines of quantifiers, and at last the limits.
use Rattle.std.specs.Prelude.{◌≡◌, ◌≢◌, ℕ, ◌+◌, ◌<◌, ◌≤◌, List, [], ◌∷◌, Bool, All, ⊤}
use Rattle.qbf_logic.specs.declared.quant.Quant.{Quant}
use Rattle.qbf_logic.specs.Formulas.{IsQuantified}
use Rattle.dimacs_front.specs.Lines.{Placed, tokens, end_line}
use Rattle.dimacs_front.specs.Dimacs.{Spells, SpellsClauses, HasHeader, header_for}
use Rattle.dimacs_front.specs.Quantified.{behind_line, on_line}
use Rattle.dimacs_front.specs.Qdimacs.{SpellsQuantifiers, HasPrefix, IsWithinLimits}
use Rattle.dimacs_front.specs.Refusals.{IsHeaderRefusal, IsClauseRefusal}
use Rattle.dimacs_front.specs.declared.error.DimacsError.{DimacsError}
use Rattle.dimacs_front.specs.declared.error.DimacsError.TheVariants.{Syntax, Range, Limit, Twice, Memory}
use Rattle.dimacs_front.specs.declared.header.Header.{Header}
use Rattle.dimacs_front.specs.declared.cnf.Qbf.{Qbf}

-- a number is next on the line
abbrev pub GoesOnWithNumber : ℕ → List Placed → Type 0
GoesOnWithNumber line [] = ⊥
GoesOnWithNumber line (t ∷ ts) = (t.line ≡ line) × (n : ℕ) × Spells n t.text

-- Why the tokens behind the header are not lines of quantifiers, each refusal with its cause.
pub data IsPrefixRefusal (h : Header) (body : List Placed) (e : DimacsError) : Type 0 where
  behind_end : (line : ℕ) (prefix : List Quant) (t : Placed) (rest : List Placed) → SpellsQuantifiers h body (behind_line line) prefix (t ∷ rest) → t.line ≡ line → e ≡ Syntax line → IsPrefixRefusal h body e
  no_number : (line : ℕ) (all : Bool) (prefix : List Quant) (rest : List Placed) → SpellsQuantifiers h body (on_line all line) prefix rest → ¬ GoesOnWithNumber line rest → e ≡ Syntax line → IsPrefixRefusal h body e
  above_variables : (line : ℕ) (all : Bool) (prefix : List Quant) (t : Placed) (rest : List Placed) → SpellsQuantifiers h body (on_line all line) prefix (t ∷ rest) → t.line ≡ line → (n : ℕ) → Spells (n + 1) t.text → h.vars ≤ n
      → e ≡ Range line → IsPrefixRefusal h body e
  second_quantifier : (line : ℕ) (all : Bool) (prefix : List Quant) (t : Placed) (rest : List Placed) → SpellsQuantifiers h body (on_line all line) prefix (t ∷ rest) → t.line ≡ line → (n : ℕ) → Spells (n + 1) t.text → n < h.vars
      → IsQuantified prefix n → e ≡ Twice line → IsPrefixRefusal h body e

-- the text has no header, or behind it are not lines of quantifiers and then its clauses, or the formula is above the limits
pub data IsFormulaRefusal (text : List ℕ) (e : DimacsError) : Type 0 where
  of_header : IsHeaderRefusal (end_line text) (tokens text) e → IsFormulaRefusal text e
  of_prefix : (h : Header) (body : List Placed) → HasHeader (tokens text) h body → IsPrefixRefusal h body e → IsFormulaRefusal text e
  of_clauses : (h : Header) (body rest : List Placed) (prefix : List Quant) → HasHeader (tokens text) h body → HasPrefix h body prefix rest → IsClauseRefusal (end_line text) h rest e → IsFormulaRefusal text e
  above_limits : (line : ℕ) (q : Qbf) (body rest : List Placed) → HasHeader (tokens text) (header_for line q.matrix) body → HasPrefix (header_for line q.matrix) body q.prefix rest → All (λ t. t.line ≢ line) rest
      → SpellsClauses q.matrix.vars rest q.matrix.clauses → ¬ IsWithinLimits q → e ≡ Limit → IsFormulaRefusal text e

-- the text is refused for this, or memory was wanted
abbrev pub IsFormulaRefusedFor : List ℕ → DimacsError → Type 0
IsFormulaRefusedFor text Memory = ⊤
IsFormulaRefusedFor text e = IsFormulaRefusal text e
