use Rattle.cert_check.proofs.NamedStages.{empty_whole}
use Rattle.cert_check.proofs.Saturations.{saturation_same}
use Rattle.cert_check.proofs.covered.cover.Goals as goal

pub name_all-requires-clause-whole : goal.name_all-requires-clause-whole
name_all-requires-clause-whole c = empty_whole c.args.cert c.requires c.new.result c.new-2.result c.new.ensures c.new-2.ensures

pub returns-clause-same : goal.returns-clause-same
returns-clause-same c = saturation_same c.args.cert c.name_all.new.cert.cert c.requires c.name_all.ensures.kept
