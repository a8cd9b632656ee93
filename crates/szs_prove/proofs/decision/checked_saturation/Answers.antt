use Rattle.szs_prove.proofs.CheckedDecisions.{always_satisfied}
use Rattle.szs_prove.proofs.decision.checked_saturation.Goals as goal

pub saturation_numbers-requires : goal.saturation_numbers-requires
saturation_numbers-requires c = c.requires.outcome.run.whole

pub accept_saturation-requires-clause-whole : goal.accept_saturation-requires-clause-whole
accept_saturation-requires-clause-whole c = c.requires.outcome.run.whole

pub returns : goal.returns
returns c =
    always_satisfied c.valid_certificates_certify.ensures c.args.p.now c.requires.problem c.names_are_printable.ensures.covers c.args.cert c.args.journal c.requires.outcome c.saturation_numbers.ensures
    c.accept_saturation.result c.accept_saturation.ensures.same c.accept_saturation.ensures.named c.accept_saturation.ensures.fits
