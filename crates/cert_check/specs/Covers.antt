-- What covers a clause that is an instance of one with so many literals.
use Rattle.std.specs.Prelude.{◌⊎◌, ℕ, List, Any}
use Rattle.inst_logic.specs.declared.signed.Signed.{Signed}
use Rattle.inst_logic.specs.Signed.{IsTautology}
use Rattle.inst_logic.specs.Clauses.{TreeClause, AreVariants}
use Rattle.term_bank.specs.Forest.{Forest, clause_at}
use Rattle.cert_values.specs.declared.member.Member.{Member}
use Rattle.cert_index.specs.Shorter.{IsShorter}

-- e is a variant of d, or is shorter and subsumes it
abbrev pub Covers : ℕ → TreeClause → TreeClause → Type 0
Covers n d e = AreVariants d e ⊎ IsShorter n d e

-- the member's clause covers the clause d of ids
abbrev pub CoversOf : Forest → ℕ → List (Signed ℕ) → Member → Type 0
CoversOf f n d m = Covers n (clause_at f d) (clause_at f m.clause)

-- d is a tautology, or some member covers it
abbrev pub IsCoveredIn : Forest → List Member → ℕ → List (Signed ℕ) → Type 0
IsCoveredIn f ms n d = IsTautology (clause_at f d) ⊎ Any (CoversOf f n d) ms
