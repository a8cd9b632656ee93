use Rattle.std.proofs.Common.{◌<◌, arith, sym, ◌∙◌, subst}
use Rattle.std.proofs.lemmas.Option.{slice_get_within}
use Rattle.cdcl_core.specs.Analysis.{IsMetDecided, ShowsGiven}
use Rattle.cdcl_core.proofs.MeetLaws.{met_decided_first, met_decided_taken, given_done}
use Rattle.cdcl_core.proofs.AnalysisLaws.{covers_none, waiting_taken}
use Rattle.cdcl_core.proofs.analysis.analyze_given.Goals as goal

pub loop-next-init : goal.loop-next-init
loop-next-init c =
    let t = c.args.reasons.trail.now.trail in
    let g = c.requires.given in
    let start = c.place_of-place.result in
    let at = c.place_of-place.ensures g.0 g.1 g.2 in
    let why = c.requires.ready.implied start c.args.number g.0 at g.3 in
    record {
      within = omega arith;
      size = c.in_ok-analysis.ensures.size ∙ c.requires.size;
      met = subst (λ l. IsMetDecided c.args.reasons.log.now t start start l c.begin.new.seen c.in_ok-analysis.analysis) g.2
          (met_decided_first c.args.reasons.log.now t start c.args.number g.0 c.begin.new.seen c.in_ok-analysis.analysis c.requires.ready at g.3 c.in_ok-analysis.ensures.begun);
      waiting = (c.in_ok-analysis.ensures.begun why.0 why.1).waiting start;
    }

pub meet_decided-requires-clause-place : goal.meet_decided-requires-clause-place
meet_decided-requires-clause-place c =
    let t = c.args.reasons.trail.now.trail in
    let g = c.requires.given in
    let inside = slice_get_within t.entries c.place_of-place.result g.0 (c.place_of-place.ensures g.0 g.1 g.2) in
    omega (arith, inside, c.loop-next.invariant.within, c.in-Some.ensures.some.below)

pub loop-next-preserved : goal.loop-next-preserved
loop-next-preserved c =
    let t = c.args.reasons.trail.now.trail in
    let start = c.place_of-place.result in
    let x = c.loop-next.invariant in
    let n = c.in-Some.ensures.some in
    let limit = c.loop-next.place in
    let next = c.in-Some.next in
    let low : next < start = omega (arith, x.within, n.below) in
    let new = c.take_below.new.self in
    record {
      within = omega (arith, low);
      size = c.in_ok-meet_decided.ensures.size ∙ x.size;
      met = c.in_ok-meet_decided.ensures.met start c.args.lit low (met_decided_taken c.args.reasons.log.now t start limit next c.args.lit c.loop-next.seen new c.loop-next.analysis n x.waiting x.met);
      waiting = c.in_ok-meet_decided.ensures.waiting (waiting_taken t limit next c.loop-next.seen c.loop-next.analysis.waiting.places new n x.waiting);
    }

pub returns-clause-hints : goal.returns-clause-hints
returns-clause-hints c =
    let t = c.args.reasons.trail.now.trail in
    let g = c.requires.given in
    let start = c.place_of-place.result in
    let a = c.loop-next.analysis in
    let marks = c.loop-next.seen in
    let limit = c.loop-next.place in
    let met = subst (λ l. IsMetDecided c.args.reasons.log.now t start limit l marks a) (sym g.2) c.loop-next.invariant.met in
    let shows = given_done c.args.reasons.log.now t start limit g.0 marks a c.reverse.new.self.items c.requires.ready.trail (c.place_of-place.ensures g.0 g.1 g.2)
    (λ F. covers_none t limit marks a.waiting.places F c.in_default.ensures.none c.loop-next.invariant.waiting) c.reverse.ensures.items met in
    subst (λ l. ShowsGiven c.args.reasons.log.now t.entries l marks c.reverse.new.self.items) g.2 shows
