use Rattle.cert_front.proofs.Certificates.{TextsAreOne}
use Rattle.cert_front.proofs.Checks.{LoadingsAreOne, one_found}
use Rattle.cert_front.proofs.Queries.{one_answer}
use Rattle.cert_front.proofs.file_laws.findings_are_one.Goals as goal

pub returns-clause-checks : goal.returns-clause-checks
returns-clause-checks c =
    let texts : TextsAreOne = record { certificates = c.texts_are_one.ensures.once; versions = c.readings_are_one.ensures.versions; apart = c.readings_are_one.ensures.apart } in
    let loadings : LoadingsAreOne = record { problems = c.one_loading.ensures.problems; refusals = c.one_loading.ensures.refusals; apart = c.one_loading.ensures.apart } in
    λ files name problem root. one_found texts loadings c.judgements_are_one.ensures files name problem root

pub returns-clause-replies : goal.returns-clause-replies
returns-clause-replies c =
    let texts : TextsAreOne = record { certificates = c.texts_are_one.ensures.once; versions = c.readings_are_one.ensures.versions; apart = c.readings_are_one.ensures.apart } in
    λ files name. one_answer texts c.replies_are_one.ensures files name
