use Rattle.std.proofs.Common.{◌≡◌, ◌+◌, ◌++◌, drop, map}
use Rattle.cert_values.specs.Values.{step_of}
use Rattle.cert_format.specs.Lines.{step_line}
use Rattle.cert_format.specs.Text.{numbered_lines}
use Rattle.cert_text.proofs.listing.push_steps.Given as goal

abbrev pub invariant-loop-i : goal.invariant-loop-i
invariant-loop-i l =
    l.pen ++ numbered_lines step_line (l.i + 1) (map (step_of l.bank) (drop l.i l.steps))
    ≡ l.initial.pen ++ numbered_lines step_line 1 (map (step_of l.bank) l.steps)
