use Rattle.cdcl_core.proofs.EndLaws.{not_in_core_unmarked, not_in_core_given}
use Rattle.cdcl_core.proofs.search.is_in_core.Goals as goal

pub returns-then-not-contains : goal.returns-then-not-contains
returns-then-not-contains c = not_in_core_unmarked c.args.trail.now.trail.entries c.args.seen.now c.args.refuted c.args.lit c.contains.result c.if-eq.ensures c.contains.ensures c.if-not-contains.true

pub returns-then-is_some : goal.returns-then-is_some
returns-then-is_some c = not_in_core_given c.args.trail.now.trail c.args.seen.now c.args.refuted c.args.lit c.reason.result c.is_some.result c.requires.trail c.if-eq.ensures c.reason.ensures c.is_some.ensures c.if-is_some.true
