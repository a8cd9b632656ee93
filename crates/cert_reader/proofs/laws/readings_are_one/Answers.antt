use Rattle.cert_reader.proofs.OneReading.{one_version, no_certificate}
use Rattle.cert_reader.proofs.laws.readings_are_one.Goals as goal

pub returns-clause-versions : goal.returns-clause-versions
returns-clause-versions c = one_version

pub returns-clause-apart : goal.returns-clause-apart
returns-clause-apart c = no_certificate c.texts_are_one.ensures.lines
