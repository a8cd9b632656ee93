use Rattle.std.proofs.Common.{arith, refl, ◌∙◌}
use Rattle.cdcl_core.specs.declared.analysis.Analysis.{Analysis}
use Rattle.cdcl_core.proofs.MeetLaws.{met_first, met_taken, analysis_done}
use Rattle.cdcl_core.proofs.AnalysisLaws.{covers_none, waiting_taken}
use Rattle.cdcl_core.proofs.analysis.analyze.Goals as goal

pub loop-next-init : goal.loop-next-init
loop-next-init c =
    let begun = c.in_ok-analysis.ensures.begun c.requires.conflict.0 c.requires.conflict.1 in
    record {
      within = omega (arith, c.requires.count);
      size = c.in_ok-analysis.ensures.size ∙ c.requires.size;
      met = met_first c.args.reasons.log.now c.args.reasons.trail.now.trail c.args.count c.args.number c.begin.new.seen c.in_ok-analysis.analysis c.requires.count c.requires.conflict begun;
      waiting = begun.waiting c.args.count;
    }

pub meet-requires-clause-met : goal.meet-requires-clause-met
meet-requires-clause-met c = met_taken c.args.reasons.log.now c.args.reasons.trail.now.trail c.loop-next.place c.in-Some.next c.loop-next.seen c.take_below.new.self c.loop-next.analysis c.in-Some.ensures.some c.loop-next.invariant.waiting c.loop-next.invariant.met

pub loop-next-preserved : goal.loop-next-preserved
loop-next-preserved c =
    let t = c.args.reasons.trail.now.trail in
    let x = c.loop-next.invariant in
    record {
      within = omega (arith, x.within, c.in-Some.ensures.some.below);
      size = c.in_ok-meet.ensures.size ∙ x.size;
      met = c.in_ok-meet.ensures.met;
      waiting = c.in_ok-meet.ensures.waiting (waiting_taken t c.loop-next.place c.in-Some.next c.loop-next.seen c.loop-next.analysis.waiting.places c.take_below.new.self c.in-Some.ensures.some x.waiting);
    }

pub returns-clause-analysis : goal.returns-clause-analysis
returns-clause-analysis c =
    let t = c.args.reasons.trail.now.trail in
    let a = c.loop-next.analysis in
    let b : Analysis = record a { hints = c.reverse.new.self; waiting = record { present = a.waiting.present; places = c.take_below.new.self } } in
    analysis_done c.args.reasons.log.now t c.loop-next.place c.loop-next.seen a b c.requires.ready.trail
    (λ F. covers_none t c.loop-next.place c.loop-next.seen a.waiting.places F c.in_default.ensures.none c.loop-next.invariant.waiting) refl c.reverse.ensures.items c.loop-next.invariant.met
