use Rattle.std.proofs.Common.{◌∙◌, refl, sym}
use Rattle.inst_logic.specs.LiteralView.{literal}
use Rattle.tptp_read.proofs.AtomForms.{width_is}
use Rattle.tptp_read.proofs.atom.atom_of.Goals as goal

pub returns-then-literal_is_wide : goal.returns-then-literal_is_wide
returns-then-literal_is_wide c =
    let a = c.in-Ok.ensures in
    (refl, refl, a.0, a.1, sym c.in_default.ensures, sym (width_is a.0 (literal c.in-Ok.atom) a.2) ∙ sym c.literal_is_wide.ensures ∙ c.if-literal_is_wide.true)

pub returns : goal.returns
returns c =
    let a = c.in-Ok.ensures in
    (a.0, a.1, sym c.in_default.ensures, sym (width_is a.0 (literal c.in-Ok.atom) a.2) ∙ sym c.literal_is_wide.ensures ∙ c.if-literal_is_wide.false, a.2)
