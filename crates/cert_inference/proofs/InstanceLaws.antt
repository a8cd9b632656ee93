-- Answers to whether a clause is an instance: by what was seen, or by what was built.
use Rattle.std.proofs.Common.{◌≡◌, ◌↔◌, ℕ, List, Bool, sym, ◌∙◌}
use Rattle.std.specs.Prelude.{IsTrue}
use Rattle.inst_logic.specs.declared.signed.Signed.{Signed}
use Rattle.inst_logic.specs.Clauses.{canonical_form, instance}
use Rattle.inst_logic.specs.Unifiers.{Sided}
use Rattle.term_bank.specs.Forest.{Forest, Extends, IsClauseAt, IsClauseOf, clause_at}
use Rattle.term_bank.proofs.Clauses.{clause_extends}
use Rattle.unify_core.specs.Sides.{Binding, IsResolvedBy, of_side}
use Rattle.unify_core.specs.declared.side.Side.{Side}
use Rattle.cert_inference.specs.Instances.{IsInstanceOf}

-- the instance was built
pub instance_built : (f g : Forest) → Extends f g → (es : List Binding) (x : Side) (c d e : List (Signed ℕ)) → IsClauseOf f d → ((s : Sided) → IsResolvedBy f es s → IsClauseAt g e (canonical_form (instance (of_side s x) (clause_at f c))))
    → (r : Bool) → IsTrue r ↔ (clause_at g e ≡ clause_at g d) → IsInstanceOf f es x c d r
instance_built f g grown es x c d e ids made r same s resolved =
    let there : clause_at g d ≡ clause_at f d = clause_extends f g grown d ids in
    let is = (made s resolved).1 in (
      (λ t. sym there ∙ sym (same.0 t) ∙ is),
      (λ h. same.1 (is ∙ sym h ∙ sym there)),
    )
