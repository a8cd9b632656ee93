-- No interpretation makes the clauses of a chain true.
use Rattle.std.proofs.Common.{◌≡◌, ℕ, ◌+◌, ◌-◌, ◌<◌, ◌≤◌, zero, suc, List, [], ◌∷◌, refl, subst, arith, inl, inr}
use Rattle.inst_logic.specs.Tree.{Tree, var}
use Rattle.inst_logic.specs.Substitution.{Substitution}
use Rattle.inst_logic.specs.Clauses.{TreeClause, instance, IsGround}
use Rattle.inst_logic.specs.Truth.{IsTrueLiteral, IsTrueClause}
use Rattle.inst_logic.specs.Examples.{yes, no}
use Rattle.inst_logic.proofs.Membership.{◌∈◌, in_left, in_right, any_in, all_in}
use Rattle.inst_calculus.specs.Axioms.{equality_axioms, with_axioms}
use Rattle.inst_calculus.specs.Models.{Makes, IsTrueBy}
use Rattle.szs_prove.specs.Chains.{constant, edge, reached, edge_clause, edge_clauses, first_clause, rule_clause, last_clause, chain_clauses, HasNoModel}
use Rattle.szs_prove.proofs.ChainClauses.{edge_in}

-- constant i for the first variable, and the next for all others
abbrev step_at : ℕ → Substitution
step_at i zero = constant i
step_at i (suc v) = constant (i + 1)

module _ (holds : Tree → Type 0) where
  -- the only literal of a true clause is true
  only : (a : Tree) → IsTrueClause holds (yes a ∷ []) → holds a
  only a t = let (l, i, h) = any_in (IsTrueLiteral holds) (yes a ∷ []) t in
      elim i [ inl e ↦ subst (IsTrueLiteral holds) e h | inr b ↦ absurd b ]

  only_denied : (a : Tree) → IsTrueClause holds (no a ∷ []) → ¬ holds a
  only_denied a t = let (l, i, h) = any_in (IsTrueLiteral holds) (no a ∷ []) t in
      elim i [ inl e ↦ subst (IsTrueLiteral holds) e h | inr b ↦ absurd b ]

  -- where both conditions hold, so does the conclusion
  concluded : (a b c : Tree) → IsTrueClause holds (no a ∷ no b ∷ yes c ∷ []) → holds a → holds b → holds c
  concluded a b c t p q = let (l, i, h) = any_in (IsTrueLiteral holds) (no a ∷ no b ∷ yes c ∷ []) t in
      elim i [
        | inl e ↦ let n : ¬ holds a = subst (IsTrueLiteral holds) e h in absurd (n p)
        | inr (inl e) ↦ let n : ¬ holds b = subst (IsTrueLiteral holds) e h in absurd (n q)
        | inr (inr (inl e)) ↦ subst (IsTrueLiteral holds) e h
        | inr (inr (inr b)) ↦ absurd b
      ]

  -- the ground instances of the clause are true
  abbrev Satisfies : TreeClause → Type 0
  Satisfies c = (s : Substitution) → IsGround (instance s c) → IsTrueClause holds (instance s c)

  -- each constant of the chain is reached
  each_reached : (k : ℕ) → ((c : TreeClause) → c ∈ edge_clauses k → Satisfies c) → Satisfies first_clause → Satisfies rule_clause
      → (i : ℕ) → i ≤ k → holds (reached (constant (i + 1)))
  each_reached k edges first rule zero h = only (reached (constant 1)) (first var refl)
  each_reached k edges first rule (suc i) h =
      let before = each_reached k edges first rule i (omega arith) in
      let along = only (edge (constant (i + 1)) (constant (i + 1 + 1))) (edges (edge_clause (i + 1)) (edge_in k (i + 1) (omega arith) (omega arith)) var refl) in
      let after = concluded (reached (constant (i + 1))) (edge (constant (i + 1)) (constant (i + 1 + 1))) (reached (constant (i + 1 + 1))) (rule (step_at (i + 1)) refl) before along in
      let e : i + 1 + 1 ≡ suc i + 1 = omega arith in
      subst (λ j. holds (reached (constant j))) e after

  pub never_satisfied : (n : ℕ) → 0 < n → ((c : TreeClause) → c ∈ chain_clauses n → Satisfies c) → ⊥
  never_satisfied n h all = only_denied (reached (constant n)) (all (last_clause n) last var refl) (subst (λ j. holds (reached (constant j))) e arrived)
    where
      rest : List TreeClause
      rest = first_clause ∷ rule_clause ∷ last_clause n ∷ []

      e : n - 1 + 1 ≡ n
      e = omega arith

      last : last_clause n ∈ chain_clauses n
      last = in_right (last_clause n) (edge_clauses (n - 1)) rest (inr (inr (inl refl)))

      arrived : holds (reached (constant (n - 1 + 1)))
      arrived = each_reached (n - 1) (λ c i. all c (in_left c (edge_clauses (n - 1)) rest i))
          (all first_clause (in_right first_clause (edge_clauses (n - 1)) rest (inl refl)))
          (all rule_clause (in_right rule_clause (edge_clauses (n - 1)) rest (inr (inl refl)))) (n - 1) (omega arith)

pub chain_has_no_model : (n : ℕ) → 0 < n → HasNoModel (chain_clauses n)
chain_has_no_model n h ms all =
    never_satisfied (IsTrueBy ms) n h (λ c i. all_in (Makes ms) (with_axioms (chain_clauses n)) all c (in_left c (chain_clauses n) (equality_axioms (chain_clauses n)) i))
