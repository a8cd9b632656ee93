-- Instances by ground terms, and what makes a canonical form true.
use Rattle.std.proofs.Common.{List, sym, ap, ◌∙◌, subst as transport}
use Rattle.inst_logic.specs.declared.signed.Signed.{Signed}
use Rattle.inst_logic.specs.Tree.{Tree}
use Rattle.inst_logic.specs.Substitution.{Substitution, subst_literal, followed_by, tree_vars, clause_vars}
use Rattle.inst_logic.specs.Clauses.{TreeClause, instance, canonical_form, order_of, IsGround}
use Rattle.inst_logic.specs.Truth.{IsTrueLiteral}
use Rattle.inst_logic.proofs.Membership.{◌∈◌, any_in, nothing_in}
use Rattle.inst_calculus.specs.Models.{SelectedClause, IsTrueBy, Makes}
use Rattle.inst_calculus.proofs.Trees.{IsGrounding, ground_under}
use Rattle.inst_calculus.proofs.Clauses.{literal_of, from_instance, literal_followed}
use Rattle.inst_calculus.proofs.CanonicalForms.{unnumbered, canonical_within}

ground_instance : (s : Substitution) → IsGrounding s → (c : TreeClause) → IsGround (instance s c)
ground_instance s g c = nothing_in (clause_vars (instance s c)) (λ v i.
    let (l, j, u) = literal_of v (instance s c) i in
    let (k, m, e) = from_instance s l c j in
    transport (λ vs. v ∈ vs) (ap (λ (x : Signed Tree). tree_vars x.atom) (sym e) ∙ ground_under s g k.atom) u)

-- what makes the canonical form true makes the clause true
pub true_literal : (ms : List SelectedClause) (c : TreeClause) → Makes ms (canonical_form c) → (s : Substitution) → IsGrounding s → (l : Signed Tree) × (l ∈ c) × IsTrueLiteral (IsTrueBy ms) (subst_literal s l)
true_literal ms c makes s g =
    let back : Substitution = unnumbered (order_of c) in
    let r : Substitution = followed_by back s in
    let (l, i, h) = any_in (IsTrueLiteral (IsTrueBy ms)) (instance r (canonical_form c)) (makes r (ground_instance r (λ v. ground_under s g (back v)) (canonical_form c))) in
    let (k, j, e) = from_instance r l (canonical_form c) i in
    (subst_literal back k, canonical_within c k j, transport (IsTrueLiteral (IsTrueBy ms)) (sym (literal_followed back s k ∙ e)) h)
