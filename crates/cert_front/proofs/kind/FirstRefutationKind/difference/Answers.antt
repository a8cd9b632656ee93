use Rattle.std.proofs.lemmas.Result.{on_ok_weaker}
use Rattle.cert_front.proofs.Grown.{first_kept, first_whole}
use Rattle.cert_front.proofs.kind.FirstRefutationKind.difference.Goals as goal

pub returns-clause-whole : goal.returns-clause-whole
returns-clause-whole c = on_ok_weaker c.difference.result (first_whole c.args.self.now c.difference.new.base c.requires.whole c.difference.ensures.kept) c.difference.ensures.whole

pub returns-clause-same : goal.returns-clause-same
returns-clause-same c = first_kept c.difference.new.base c.args.self.now c.requires.whole c.difference.ensures.kept
