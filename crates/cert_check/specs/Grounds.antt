-- Members in canonical form, and ground clauses that are members under one term.
use Rattle.std.specs.Prelude.{◌≡◌, ℕ, List, All, option_map, slice_get}
use Rattle.inst_logic.specs.declared.signed.Signed.{Signed}
use Rattle.inst_logic.specs.Clauses.{IsCanonical, instance}
use Rattle.term_bank.specs.Forest.{Forest, clause_at, tree_at}
use Rattle.cert_values.specs.declared.member.Member.{Member}

abbrev pub AreCanonicalMembers : Forest → List Member → Type 0
AreCanonicalMembers f ms = All (λ m. IsCanonical (clause_at f m.clause)) ms

-- the clause at place i, counted from 0, is the member's with the term in the place of every variable, or neither is there
abbrev pub IsGroundAt : Forest → ℕ → List Member → List (List (Signed ℕ)) → ℕ → Type 0
IsGroundAt f term ms cs i = option_map (clause_at f) (slice_get cs i) ≡ option_map (λ m. instance (λ _. tree_at f term) (clause_at f m.clause)) (slice_get ms i)
