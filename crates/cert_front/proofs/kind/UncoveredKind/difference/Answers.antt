use Rattle.cert_front.proofs.Grown.{saturation_kept}
use Rattle.cert_front.proofs.kind.UncoveredKind.difference.Goals as goal

pub returns-clause-same : goal.returns-clause-same
returns-clause-same c = saturation_kept c.difference.new.base c.args.self.now.0 c.requires.whole c.difference.ensures.kept
