-- What the answers of a solver say.
use Rattle.std.specs.Prelude.{◌≡◌, ◌≢◌, ℕ, ◌+◌, ◌-◌, ◌≤◌, List, [], ◌∷◌, drop, length, map, Bool, Some, All, Contains, slice_get}
use Rattle.inst_logic.specs.declared.signed.Signed.{Signed}
use Rattle.inst_logic.specs.Signed.{complement, IsTautology}
use Rattle.inst_logic.specs.Truth.{IsTrueLiteral, IsTrueClause}
use Rattle.prop_logic.specs.declared.literal.Step.{Step}
use Rattle.prop_logic.specs.declared.solver.Answer.{Answer}
use Rattle.prop_logic.specs.declared.solver.Answer.TheVariants.{Sat, Unsat}
use Rattle.prop_logic.specs.Literal.{IsShownDerivation, StepsBelow}
use Rattle.prop_logic.specs.Valuation.{IsHeld}

-- the valuation makes every clause and every assumption true
pub record MakesTrue (valuation : List Bool) (clauses : List (List (Signed ℕ))) (assumptions : List (Signed ℕ)) : Type 0 where
  pub clauses_true : All (IsTrueClause (IsHeld valuation)) clauses
  pub assumptions_true : All (IsTrueLiteral (IsHeld valuation)) assumptions

-- the items stand in ys in their order
abbrev pub IsSubList : {X : Type 0} → List X → List X → Type 0
IsSubList [] ys = Unit {0}
IsSubList (x ∷ xs) ys = (k : ℕ) × (slice_get ys k ≡ Some x) × IsSubList xs (drop (k + 1) ys)

-- there is a last step, and its clause has these literals and no others
abbrev pub EndsWith : List Step → List (Signed ℕ) → Type 0
EndsWith steps literals = (s : Step) × (slice_get steps (length steps - 1) ≡ Some s) × All (Contains literals) s.clause × All (Contains s.clause) literals

-- the valuation makes every clause and every assumption true, and has no more items than there are atoms
pub record Satisfies (atoms : ℕ) (clauses : List (List (Signed ℕ))) (assumptions : List (Signed ℕ)) (valuation : List Bool) : Type 0 where
  pub makes_true : MakesTrue valuation clauses assumptions
  pub within : length valuation ≤ atoms

-- the core is a part of the assumptions, and the steps show that it can't be true with the clauses
pub record Refutes (atoms : ℕ) (clauses : List (List (Signed ℕ))) (assumptions core : List (Signed ℕ)) (derivation : List Step) : Type 0 where
  pub none : (valuation : List Bool) → ¬ MakesTrue valuation clauses assumptions
  pub within : IsSubList core assumptions
  pub shown : IsShownDerivation clauses derivation
  pub last : EndsWith derivation (map complement core)
  pub hinted : ¬ IsTautology core → All (λ s. s.hints ≢ []) derivation
  pub atoms_below : StepsBelow atoms derivation

-- the answer to whether the clauses and the assumptions can be true together
abbrev pub IsAnswer : ℕ → List (List (Signed ℕ)) → List (Signed ℕ) → Answer → Type 0
IsAnswer atoms clauses assumptions (Sat valuation) = Satisfies atoms clauses assumptions valuation
IsAnswer atoms clauses assumptions (Unsat core derivation) = Refutes atoms clauses assumptions core derivation
