-- The variables of a canonical clause as terms: under them it stays what it is.
use Rattle.std.proofs.Common.{◌≡◌, ℕ, ◌<◌, List, length, sym, subst as transport}
use Rattle.inst_logic.specs.declared.signed.Signed.{Signed}
use Rattle.inst_logic.specs.Tree.{var}
use Rattle.inst_logic.specs.Substitution.{clause_vars}
use Rattle.inst_logic.specs.Clauses.{TreeClause, IsCanonical, IsPart, instance, order_of}
use Rattle.inst_calculus.proofs.Membership.{◌∈◌, equal_in}
use Rattle.inst_calculus.proofs.Clauses.{instance_agree, literal_var, within_part}
use Rattle.inst_calculus.proofs.CanonicalForms.{canonical_variable_below}
use Rattle.term_bank.specs.Forest.{Forest, clause_at}
use Rattle.clause_form.specs.Conclusions.{AreVariables, by_terms}
use Rattle.clause_form.specs.Placements.{ArePartTerms}

module _ (f : Forest) (d : List (Signed ℕ)) (ids : List ℕ) (canonical : IsCanonical (clause_at f d)) (variables : AreVariables f (length (order_of (clause_at f d))) ids) where
  below : (v : ℕ) → v ∈ clause_vars (clause_at f d) → v < length (order_of (clause_at f d))
  below v i = canonical_variable_below (clause_at f d) v (transport (λ (a : TreeClause). v ∈ clause_vars a) (sym canonical) i)

  same : instance (by_terms f ids) (clause_at f d) ≡ instance var (clause_at f d)
  same = instance_agree (by_terms f ids) var (clause_at f d) (λ v i. (variables.each v 0 (below v i)).1)

  pub own_part_terms : ArePartTerms f d d ids
  own_part_terms = record {
    each = variables.count_of;
    within = λ k e l. (variables.each k e (transport (λ n. k < n) variables.count_of l)).0;
    part = transport (λ (a : TreeClause). IsPart a (clause_at f d)) (sym same) (within_part var (clause_at f d) (clause_at f d) (λ l i. equal_in l _ (clause_at f d) (sym (literal_var l)) i));
  }
