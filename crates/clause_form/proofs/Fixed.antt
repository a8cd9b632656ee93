-- Patterns that no substitution makes their targets.
use Rattle.std.proofs.Common.{◌≡◌, ℕ, zero, suc, ◌<◌, List, [], ◌∷◌, inl, inr, refl, length, map, get_or, arith, true}
use Rattle.std.specs.List.{All}
use Rattle.inst_logic.specs.Substitution.{Substitution, subst}
use Rattle.inst_logic.specs.Unifiers.{IsApplication}
use Rattle.term_bank.specs.Forest.{Forest, AreDistinct, tree_at, symbol_of, arguments_of, is_ground}
use Rattle.unify_core.specs.Lists.{◌∈◌}
use Rattle.unify_core.specs.Meeting.{Meeting, meetings}
use Rattle.unify_core.proofs.MatchSteps.{cannot_symbol, cannot_length, cannot_clash}

-- the terms at one place of two lists meet
pub meet_at : (xs ys : List ℕ) (i d e : ℕ) → i < length xs → i < length ys → (get_or xs i d, get_or ys i e) ∈ meetings xs ys
meet_at [] ys i d e p q = absurd (omega arith)
meet_at (x ∷ xs) [] i d e p q = absurd (omega arith)
meet_at (x ∷ xs) (y ∷ ys) zero d e p q = inl refl
meet_at (x ∷ xs) (y ∷ ys) (suc i) d e p q = inr (meet_at xs ys i d e (omega arith) (omega arith))

module _ (f : Forest) (p t : ℕ) (a : IsApplication (tree_at f p)) where
  pub never_by_symbol : ¬ (symbol_of (tree_at f p) ≡ symbol_of (tree_at f t)) → (s : Substitution) → ¬ (subst s (tree_at f p) ≡ tree_at f t)
  never_by_symbol n s e = cannot_symbol f [] p t a n s (λ m i. absurd i) e

  module _ (xs ys : List ℕ) (ex : map (tree_at f) xs ≡ arguments_of (tree_at f p)) (ey : map (tree_at f) ys ≡ arguments_of (tree_at f t)) where
    pub never_by_length : ¬ (length xs ≡ length ys) → (s : Substitution) → ¬ (subst s (tree_at f p) ≡ tree_at f t)
    never_by_length n s e = cannot_length f [] p t xs ys a ex ey n s (λ m i. absurd i) e

    pub never_by_clash : AreDistinct f.trees → p < length f.trees → t < length f.trees → All (λ i. i < p) xs → All (λ i. i < t) ys
        → (m : Meeting) × (m ∈ meetings xs ys) × (is_ground (tree_at f m.0) ≡ true) × (¬ (m.0 ≡ m.1)) → (s : Substitution) → ¬ (subst s (tree_at f p) ≡ tree_at f t)
    never_by_clash once hp ht smaller below k s e = cannot_clash f [] p t xs ys once hp ht (λ m i. absurd i) a ex ey smaller below (inr k) s (λ m i. absurd i) e
