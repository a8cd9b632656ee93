use Rattle.std.proofs.Common.{◌+◌, ◌∙◌, arith, below_more}
use Rattle.cert_check.specs.Numbered.{IsRightNumber}
use Rattle.cert_check.proofs.RightSteps.{all_numbers}
use Rattle.cert_check.proofs.steps.first_wrong.Goals as goal

pub loop-i-preserved : goal.loop-i-preserved
loop-i-preserved c = record {
  room = c.is_right.ensures.room ∙ c.loop-i.invariant.room;
  right = below_more (IsRightNumber c.args.given.now c.args.derivation.now) (c.loop-i.i + 1) c.loop-i.invariant.right (c.is_right.ensures.right.0 c.if-not-is_right.false);
}

pub returns : goal.returns
returns c = all_numbers c.args.given.now c.args.derivation.now c.loop-i.i (omega arith) c.loop-i.invariant.right
