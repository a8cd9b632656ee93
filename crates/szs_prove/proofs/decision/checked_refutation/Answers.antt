use Rattle.szs_prove.proofs.CheckedDecisions.{always_refuted}
use Rattle.szs_prove.proofs.decision.checked_refutation.Goals as goal

pub returns : goal.returns
returns c =
    always_refuted c.valid_certificates_certify.ensures c.args.p.now c.requires.problem c.args.cert c.args.journal c.requires.outcome c.refutation_numbers.ensures
    c.accept_refutation.result c.accept_refutation.ensures
