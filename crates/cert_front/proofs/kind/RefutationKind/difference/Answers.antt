use Rattle.std.proofs.lemmas.Result.{on_ok_weaker}
use Rattle.cert_values.proofs.Kept.{refutation_whole}
use Rattle.cert_front.proofs.Grown.{refutation_kept}
use Rattle.cert_front.proofs.kind.RefutationKind.difference.Goals as goal

pub returns-clause-whole : goal.returns-clause-whole
returns-clause-whole c = on_ok_weaker c.difference.result (refutation_whole c.args.self.now c.difference.new.base c.requires.whole c.difference.ensures.kept) c.difference.ensures.whole

pub returns-clause-same : goal.returns-clause-same
returns-clause-same c = refutation_kept c.difference.new.base c.args.self.now c.requires.whole c.difference.ensures.kept
