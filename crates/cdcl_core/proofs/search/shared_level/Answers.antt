use Rattle.std.proofs.Common.{ap, arith}
use Rattle.std.specs.Prelude.{unwrap_or}
use Rattle.cdcl_core.proofs.BackLaws.{shared_given, shared_found, shared_stop, shared_all}
use Rattle.cdcl_core.proofs.search.shared_level.Goals as goal

pub loop-place-preserved-then-is_some : goal.loop-place-preserved-then-is_some
loop-place-preserved-then-is_some c = shared_given c.args.trail.now.trail c.args.assumptions.now c.loop-place.place c.literal_at-lit.result c.reason.result c.is_some.result c.requires.trail (omega (arith, c.loop-place-test.true, c.requires.count)) c.literal_at-lit.ensures.literal c.reason.ensures c.is_some.ensures c.if-is_some.true c.loop-place.invariant

pub returns-in-None-clause-decisions : goal.returns-in-None-clause-decisions
returns-in-None-clause-decisions c = shared_stop c.args.trail.now.trail c.args.assumptions.now c.loop-place.place c.min.result c.literal_at-lit.result c.reason.result c.is_some.result c.requires.trail (omega (arith, c.loop-place-test.true, c.requires.count)) c.literal_at-lit.ensures.literal c.reason.ensures c.is_some.ensures c.if-is_some.false
    (omega (arith, c.min.ensures, c.saturating_sub.ensures, c.unwrap_or-level.ensures, ap (λ o. unwrap_or o 0) c.level_of.ensures)) c.loop-place.invariant

pub loop-place-preserved : goal.loop-place-preserved
loop-place-preserved c = shared_found c.args.trail.now.trail c.args.assumptions.now c.loop-place.place c.in-Some.found c.literal_at-lit.result (omega (arith, c.loop-place-test.true, c.requires.count)) c.literal_at-lit.ensures.literal c.in-Some.ensures c.loop-place.invariant

pub returns-clause-decisions : goal.returns-clause-decisions
returns-clause-decisions c = λ e inside chosen h. shared_all c.args.trail.now.trail c.args.assumptions.now c.loop-place.place (omega (arith, c.loop-place-test.false, c.requires.count)) c.loop-place.invariant e inside chosen
