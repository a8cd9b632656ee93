-- The QDIMACS form as a relation between texts and formulas.
use Rattle.std.specs.Prelude.{◌≡◌, ◌≢◌, ℕ, ◌+◌, ◌<◌, ◌≤◌, List, [], ◌∷◌, ◌++◌, Bool, codes, count_by, All, if◌then◌else◌}
use Rattle.inst_logic.specs.Codes as byte
use Rattle.qbf_logic.specs.declared.quant.Quant.{Quant}
use Rattle.qbf_logic.specs.Formulas.{IsQuantified}
use Rattle.qbf_logic.specs.Translation.{measure}
use Rattle.dimacs_front.specs.Lines.{Placed, tokens}
use Rattle.dimacs_front.specs.Dimacs.{Spells, SpellsClauses, HasHeader, header_for}
use Rattle.dimacs_front.specs.Quantified.{Stage, behind_line, on_line}
use Rattle.dimacs_front.specs.declared.header.Header.{Header}
use Rattle.dimacs_front.specs.declared.cnf.Qbf.{Qbf}

-- `a` for all values, and `e` for some
abbrev pub letter : Bool → List ℕ
letter all = if all then codes "a" else codes "e"

-- The tokens behind the header, up to the rest, spell these quantifiers, and the last of them leaves this stage. A line of quantifiers
-- is its letter, numbers of variables that have no quantifier yet, and `0`.
pub data SpellsQuantifiers (h : Header) (body : List Placed) : Stage → List Quant → List Placed → Type 0 where
  nothing : SpellsQuantifiers h body (behind_line h.line) [] body
  and_letter : (line : ℕ) (prefix : List Quant) (t : Placed) (rest : List Placed) → SpellsQuantifiers h body (behind_line line) prefix (t ∷ rest) → t.line ≢ line → (all : Bool) → t.text ≡ letter all
      → SpellsQuantifiers h body (on_line all t.line) prefix rest
  and_variable : (line : ℕ) (all : Bool) (prefix : List Quant) (t : Placed) (rest : List Placed) → SpellsQuantifiers h body (on_line all line) prefix (t ∷ rest) → t.line ≡ line → (n : ℕ) → Spells (n + 1) t.text → n < h.vars
      → ¬ IsQuantified prefix n → SpellsQuantifiers h body (on_line all line) (prefix ++ record { all = all; var = n } ∷ []) rest
  and_end : (line : ℕ) (all : Bool) (prefix : List Quant) (t : Placed) (rest : List Placed) → SpellsQuantifiers h body (on_line all line) prefix (t ∷ rest) → t.line ≡ line → t.text ≡ byte.digit_zero ∷ []
      → SpellsQuantifiers h body (behind_line line) prefix rest

-- the tokens go on on another line, if they go on, and not with a letter
abbrev pub BeginsClauses : ℕ → List Placed → Type 0
BeginsClauses line [] = Unit {0}
BeginsClauses line (t ∷ ts) = (t.line ≢ line) × ((all : Bool) → t.text ≢ letter all)

-- the tokens behind the header are whole lines of quantifiers, and then the rest
pub record HasPrefix (h : Header) (body : List Placed) (prefix : List Quant) (rest : List Placed) : Type 0 where
  pub last_line : ℕ
  pub quantifiers : SpellsQuantifiers h body (behind_line last_line) prefix rest
  pub ends : BeginsClauses last_line rest

-- at most 1,024 variables are universal, and the measure of the clauses is at most 10,000,000
pub record IsWithinLimits (q : Qbf) : Type 0 where
  pub few : count_by (λ r. r.all) q.prefix ≤ 1024
  pub small : measure q.prefix q.matrix.clauses ≤ 10000000

-- Behind the header are lines of quantifiers, and behind those the tokens of as many clauses as the header says. The formula is within
-- the limits.
pub record IsQdimacs (text : List ℕ) (q : Qbf) : Type 0 where
  pub line : ℕ
  pub body : List Placed
  pub rest : List Placed
  pub header : HasHeader (tokens text) (header_for line q.matrix) body
  pub prefix : HasPrefix (header_for line q.matrix) body q.prefix rest
  pub behind : All (λ t. t.line ≢ line) rest
  pub clauses : SpellsClauses q.matrix.vars rest q.matrix.clauses
  pub within : IsWithinLimits q
