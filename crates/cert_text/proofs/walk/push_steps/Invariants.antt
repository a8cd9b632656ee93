use Rattle.std.proofs.Common.{drop}
use Rattle.cert_text.proofs.Writing.{IsPushed}
use Rattle.cert_text.proofs.walk.push_steps.Given as goal

abbrev pub invariant-loop-i : goal.invariant-loop-i
invariant-loop-i l = IsPushed l.bank l.fn.steps.items l.steps.items (drop l.i l.ids)
