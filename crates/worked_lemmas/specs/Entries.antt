-- Entries by the ids of `X0`, `p(X0)` and `q(X0)`.
use Rattle.std.specs.Prelude.{ℕ, List, [], ◌∷◌, Bool, true, false}
use Rattle.inst_logic.specs.declared.signed.Signed.{Signed}
use Rattle.global_subs.specs.declared.made.How.TheVariants.{Given, Lemma}
use Rattle.global_subs.specs.declared.made.Made.{Made}

abbrev pub literal : Bool → ℕ → Signed ℕ
literal positive atom = record { positive = positive; atom = atom }

-- p(X0) | q(X0) and ~p(X0), and q(X0), which they imply
abbrev pub implied_by_two : ℕ → ℕ → ℕ → List Made
implied_by_two x p q =
    record { clause = literal true p ∷ literal true q ∷ []; how = Given 1 }
    ∷ record { clause = literal false p ∷ []; how = Given 2 }
    ∷ record { clause = literal true q ∷ []; how = Lemma (x ∷ []) (1 ∷ 2 ∷ []) } ∷ []
