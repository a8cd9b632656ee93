use Rattle.std.proofs.Common.{◌≡◌}
use Rattle.proof_log.specs.Marks.{room}
use Rattle.proof_log.proofs.Steps.{AreShownBelow}
use Rattle.proof_log.proofs.checker.first_not_shown.Given as goal

-- the steps before i are shown
abbrev pub invariant-loop-i : goal.invariant-loop-i
invariant-loop-i l = record {
  same_room : room l.marks ≡ room l.fn.marks;
  shown : AreShownBelow l.given l.steps l.i;
}
