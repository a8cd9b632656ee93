use Rattle.std.proofs.Common.{sym, subst, ap, ◌∙◌, IfOk, IsTrue, ◌↔◌}
use Rattle.std.proofs.lemmas.Result.{IfOk-weaker}
use Rattle.inst_logic.specs.LiteralView.{literal}
use Rattle.inst_logic.specs.Tree.{Tree}
use Rattle.inst_calculus.specs.Models.{IsTrueBy}
use Rattle.cert_format.specs.Certificate as format
use Rattle.cert_format.specs.Validity.{IsValidSaturation}
use Rattle.cert_format.specs.declared.complaint.Complaint.TheVariants.{Place}
use Rattle.term_bank.specs.Forest.{tree_at}
use Rattle.cert_values.specs.declared.certificate.Saturation.{Saturation}
use Rattle.cert_values.specs.Values.{saturation_of}
use Rattle.cert_front.proofs.reply.SaturationTruthful.truth.Goals as goal

pub truth-requires-clause-placed : goal.truth-requires-clause-placed
truth-requires-clause-placed c =
    let valid = subst (λ (s : Saturation). IsValidSaturation (saturation_of s)) (sym c.cert.ensures.is) c.cert.ensures.valid in
    λ n. valid (Place n)

pub returns-clause-truth : goal.returns-clause-truth
returns-clause-truth c =
    let same = ap saturation_of c.cert.ensures.is ∙ c.atom.ensures.same in
    let at = ap (λ (s : Saturation). tree_at s.base.bank c.in_ok-id.id) c.cert.ensures.is ∙ c.in_ok-id.ensures.at.1 in
    let told = subst (λ (t : Tree). IfOk c.truth.result (λ r. IsTrue r ↔ IsTrueBy (format.selected_members (saturation_of c.cert.result.now)) t)) at c.truth.ensures in
    subst (λ (s : format.Saturation). IfOk c.truth.result (λ r. IsTrue r ↔ IsTrueBy (format.selected_members s) (literal c.args.atom.now).atom)) same told

pub returns-clause-valid : goal.returns-clause-valid
returns-clause-valid c = IfOk-weaker c.truth.result _ _ (λ _ _. subst IsValidSaturation c.atom.ensures.same c.cert.ensures.valid) c.truth.ensures
