use Rattle.std.proofs.Common.{sym, ◌∙◌}
use Rattle.std.proofs.lemmas.Bool.{false≢true}
use Rattle.proof_log.proofs.Steps.{shown_more, all_shown, first_not_shown}
use Rattle.proof_log.proofs.checker.first_not_shown.Goals as goal

pub returns-then-not-is_shown-clause-first : goal.returns-then-not-is_shown-clause-first
returns-then-not-is_shown-clause-first c =
    first_not_shown c.args.given.now c.args.steps.now c.loop-i.i c.index-steps-i.result c.loop-i-test.true c.index-steps-i.is
    (λ s. false≢true (sym c.if-not-is_shown.true ∙ c.is_shown.ensures.shown.1 s)) c.loop-i.invariant.shown

pub loop-i-preserved : goal.loop-i-preserved
loop-i-preserved c = record {
  same_room = c.is_shown.ensures.room ∙ c.loop-i.invariant.same_room;
  shown = shown_more c.args.given.now c.args.steps.now c.loop-i.i c.index-steps-i.result c.loop-i-test.true c.index-steps-i.is
      (c.is_shown.ensures.shown.0 c.if-not-is_shown.false) c.loop-i.invariant.shown;
}

pub returns-clause-first : goal.returns-clause-first
returns-clause-first c = all_shown c.args.given.now c.args.steps.now c.loop-i.i c.loop-i-test.false c.loop-i.invariant.shown
