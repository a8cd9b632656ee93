-- Clauses that are added to a problem under one name.
use Rattle.std.specs.Prelude.{◌≡◌, ℕ, List, ◌++◌, map}
use Rattle.std.specs.List.{flat_map}
use Rattle.inst_logic.specs.declared.clause.Problem.{Problem}
use Rattle.inst_logic.specs.Clauses.{TreeClause, canonical_form}

-- the new problem is the old one with the clauses at its end, each in canonical form and under the name
pub record Adds (old new : Problem) (name : List ℕ) (cs : List TreeClause) : Type 0 where
  pub clauses : new.clauses ≡ old.clauses ++ map canonical_form cs
  pub names : new.names ≡ old.names ++ map (λ c. name) cs

-- for each item its clauses are added under its name
pub record AddsEach {A : Type 0} (old new : Problem) (name : A → List ℕ) (clauses : A → List TreeClause) (items : List A) : Type 0 where
  pub clauses_of : new.clauses ≡ old.clauses ++ map canonical_form (flat_map clauses items)
  pub names_of : new.names ≡ old.names ++ flat_map (λ x. map (λ c. name x) (clauses x)) items
