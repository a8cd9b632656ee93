use Rattle.std.proofs.Common.{arith, ap, sym, ◌∙◌, get_or, ℕ}
use Rattle.inst_logic.specs.declared.signed.Signed.{Signed}
use Rattle.prop_logic.proofs.ChangesLaws.{same_bool}
use Rattle.cert_inference.proofs.ComparisonLaws.{more_signs}
use Rattle.cert_inference.proofs.comparison.has_signs.Goals as goal

pub loop-i-preserved : goal.loop-i-preserved
loop-i-preserved c =
    more_signs c.args.literals.now c.args.others.now c.loop-i.i (omega arith) c.requires c.index-literals-i.result c.index-others-i.result c.index-literals-i.is c.index-others-i.is
    (ap (λ (l : Signed ℕ). l.positive) c.index-literals-i.is ∙ same_bool (get_or c.args.literals.now c.loop-i.i c.index-literals-i.result).positive (get_or c.args.others.now c.loop-i.i c.index-others-i.result).positive c.if-literals-i.false ∙ sym (ap (λ (l : Signed ℕ). l.positive) c.index-others-i.is)) c.loop-i.invariant
