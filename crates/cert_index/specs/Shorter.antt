-- Members with fewer literals that subsume a clause.
use Rattle.std.specs.Prelude.{◌≡◌, ℕ, ◌<◌, List, [], ◌∷◌, length, Any}
use Rattle.inst_logic.specs.declared.signed.Signed.{Signed}
use Rattle.inst_logic.specs.Clauses.{TreeClause, Subsumes}
use Rattle.term_bank.specs.Forest.{Forest, clause_at}
use Rattle.cert_values.specs.declared.member.Member.{Member}

-- e has fewer literals, and an instance whose literals are all in d
abbrev pub IsShorter : ℕ → TreeClause → TreeClause → Type 0
IsShorter n d e = (length e < n) × Subsumes e d

-- the member's clause is so for the clause d of ids
abbrev pub ShorterOf : Forest → ℕ → List (Signed ℕ) → Member → Type 0
ShorterOf f n d m = IsShorter n (clause_at f d) (clause_at f m.clause)

-- the member's clause is one literal of the clause
abbrev pub IsUnitOf : List (Signed ℕ) → Member → Type 0
IsUnitOf c m = Any (λ l. m.clause ≡ l ∷ []) c
