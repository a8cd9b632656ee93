use Rattle.std.proofs.Common.{ℕ, false}
use Rattle.inst_logic.specs.declared.signed.Signed.{Signed}
use Rattle.cdcl_core.proofs.EndLaws.{core_more, core_same}
use Rattle.cdcl_core.proofs.search.core_of.Goals as goal

pub loop-lit-preserved-then-not-is_in_core : goal.loop-lit-preserved-then-not-is_in_core
loop-lit-preserved-then-not-is_in_core c =
    let d : Signed ℕ = record { positive = false; atom = 0 } in
    core_same c.args.trail.now.trail.entries c.args.seen.now c.args.refuted c.args.assumptions.now c.loop-lit.core c.loop-lit.lit-index d c.loop-lit-test.true c.if-not-is_in_core.ensures c.loop-lit.invariant

pub loop-lit-preserved : goal.loop-lit-preserved
loop-lit-preserved c =
    let d : Signed ℕ = record { positive = false; atom = 0 } in
    core_more c.args.trail.now.trail.entries c.args.seen.now c.args.refuted c.args.assumptions.now c.loop-lit.core c.push.new.self c.loop-lit.lit-index d c.loop-lit-test.true c.if-not-is_in_core.ensures c.in_ok-push.ensures.ok c.loop-lit.invariant
