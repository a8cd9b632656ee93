-- The literal that a saturation selects in a member.
use Rattle.std.specs.Prelude.{◌≡◌, ℕ, ◌<◌, length}
use Rattle.inst_logic.specs.declared.signed.Signed.{Signed}
use Rattle.inst_calculus.specs.Models.{SelectedClause}
use Rattle.term_bank.specs.Forest.{literal_tree}
use Rattle.cert_format.specs.Validity.{SelectsAt}
use Rattle.cert_values.specs.declared.certificate.Saturation.{Saturation}
use Rattle.cert_values.specs.Values.{saturation_of}

-- the literal of ids is the selected one of member n
pub record IsSelectedLiteral (c : Saturation) (n : ℕ) (l : Signed ℕ) : Type 0 where
  pub member : SelectedClause
  pub is : SelectsAt (saturation_of c) n member
  pub within : l.atom < length c.base.bank.trees
  pub literal : member.selected ≡ literal_tree c.base.bank l
