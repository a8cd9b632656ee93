-- Members whose selected literals have one sign, or have no unifier, are apart.
use Rattle.std.proofs.Common.{◌≡◌, ℕ, suc, ◌<◌, ap, sym, ◌∙◌, subst}
use Rattle.inst_logic.specs.declared.signed.Signed.{Signed}
use Rattle.inst_logic.specs.Tree.{Tree}
use Rattle.inst_logic.specs.Unifiers.{Sided, IsUnifier}
use Rattle.inst_calculus.specs.Models.{SelectedClause}
use Rattle.term_bank.specs.Forest.{tree_at}
use Rattle.cert_format.specs.Validity.{SelectsAt}
use Rattle.cert_format.proofs.SelectedMembers.{selected_once}
use Rattle.cert_values.specs.declared.certificate.Saturation.{Saturation}
use Rattle.cert_values.specs.SelectedLiteral.{IsSelectedLiteral}
use Rattle.cert_values.specs.Values.{saturation_of}
use Rattle.cert_index.specs.Meetings.{IsApart}

module _ (c : Saturation) (i j : ℕ) (less : i < j) (l r : Signed ℕ) (left : IsSelectedLiteral c (suc i) l) (right : IsSelectedLiteral c (suc j) r) where
  pub same_left : (m : SelectedClause) → SelectsAt (saturation_of c) (suc i) m → m ≡ left.member
  same_left m s = selected_once (saturation_of c).base.members (saturation_of c).places (suc i) m left.member s left.is

  pub same_right : (m : SelectedClause) → SelectsAt (saturation_of c) (suc j) m → m ≡ right.member
  same_right m s = selected_once (saturation_of c).base.members (saturation_of c).places (suc j) m right.member s right.is

  pub same_sign : l.positive ≡ r.positive → IsApart (saturation_of c) (suc i) (suc j)
  same_sign same m n s t signs =
      absurd (signs (ap (λ (x : SelectedClause). x.selected.positive) (same_left m s) ∙ ap (λ (k : Signed Tree). k.positive) left.literal ∙ same
      ∙ sym (ap (λ (k : Signed Tree). k.positive) right.literal) ∙ sym (ap (λ (x : SelectedClause). x.selected.positive) (same_right n t))))

  pub left_atom : (m : SelectedClause) → SelectsAt (saturation_of c) (suc i) m → m.selected.atom ≡ tree_at c.base.bank l.atom
  left_atom m s = ap (λ (x : SelectedClause). x.selected.atom) (same_left m s) ∙ ap (λ (k : Signed Tree). k.atom) left.literal

  pub right_atom : (m : SelectedClause) → SelectsAt (saturation_of c) (suc j) m → m.selected.atom ≡ tree_at c.base.bank r.atom
  right_atom m s = ap (λ (x : SelectedClause). x.selected.atom) (same_right m s) ∙ ap (λ (k : Signed Tree). k.atom) right.literal

  pub no_unifier : ((u : Sided) → ¬ IsUnifier u (tree_at c.base.bank l.atom) (tree_at c.base.bank r.atom)) → IsApart (saturation_of c) (suc i) (suc j)
  no_unifier none m n s t signs u h =
      let k : IsUnifier u (tree_at c.base.bank l.atom) n.selected.atom = subst (λ (x : Tree). IsUnifier u x n.selected.atom) (left_atom m s) h in
      absurd (none u (subst (λ (x : Tree). IsUnifier u (tree_at c.base.bank l.atom) x) (right_atom n t) k))
