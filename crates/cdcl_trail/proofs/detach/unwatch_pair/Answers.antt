use Rattle.cdcl_trail.proofs.DetachLaws.{unwatched_both}
use Rattle.cdcl_trail.proofs.detach.unwatch_pair.Goals as goal

pub returns-clause-both : goal.returns-clause-both
returns-clause-both c a b apart =
    unwatched_both c.args.n c.args.pair c.args.lists.now c.unwatch_one.new.lists c.unwatch_one-2.new.lists apart c.unwatch_one.ensures c.unwatch_one-2.ensures
