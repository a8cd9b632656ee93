use Rattle.cert_check.proofs.ShownSteps.{ShowsUpTo}
use Rattle.cert_check.proofs.shown.show_inputs.Given as goal

abbrev pub invariant-loop-i : goal.invariant-loop-i
invariant-loop-i l = ShowsUpTo l.fn.cert l.cert l.i
