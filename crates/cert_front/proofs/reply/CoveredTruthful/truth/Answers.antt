use Rattle.std.proofs.Common.{sym, subst, ap, ◌∙◌, IfOk, IsTrue, ◌↔◌}
use Rattle.std.proofs.lemmas.Result.{IfOk-weaker}
use Rattle.inst_logic.specs.LiteralView.{literal}
use Rattle.inst_logic.specs.Tree.{Tree}
use Rattle.inst_calculus.specs.Models.{IsTrueBy}
use Rattle.cert_format.specs.Certificate as format
use Rattle.cert_format.specs.Validity.{IsNamed}
use Rattle.cert_format.specs.declared.complaint.Complaint.TheVariants.{Place}
use Rattle.term_bank.specs.Forest.{tree_at}
use Rattle.cert_values.specs.declared.certificate.Covered.{Covered}
use Rattle.cert_values.specs.Values.{covered_of}
use Rattle.cert_front.proofs.reply.CoveredTruthful.truth.Goals as goal

pub truth-requires-clause-placed : goal.truth-requires-clause-placed
truth-requires-clause-placed c =
    let valid = subst (λ (s : Covered). IsNamed (covered_of s)) (sym c.cert.ensures.is) c.cert.ensures.named in
    λ n. valid (Place n)

pub returns-clause-truth : goal.returns-clause-truth
returns-clause-truth c =
    let same = ap (λ (s : Covered). (covered_of s).saturation) c.cert.ensures.is ∙ ap (λ (s : format.Covered). s.saturation) c.atom.ensures.same in
    let at = ap (λ (s : Covered). tree_at s.cert.base.bank c.in_ok-id.id) c.cert.ensures.is ∙ c.in_ok-id.ensures.at.1 in
    let told = subst (λ (t : Tree). IfOk c.truth.result (λ r. IsTrue r ↔ IsTrueBy (format.selected_members ((covered_of c.cert.result.now).saturation)) t)) at c.truth.ensures in
    subst (λ (s : format.Saturation). IfOk c.truth.result (λ r. IsTrue r ↔ IsTrueBy (format.selected_members s) (literal c.args.atom.now).atom)) same told

pub returns-clause-valid : goal.returns-clause-valid
returns-clause-valid c = IfOk-weaker c.truth.result _ _ (λ _ _. subst IsNamed c.atom.ensures.same c.cert.ensures.named) c.truth.ensures
