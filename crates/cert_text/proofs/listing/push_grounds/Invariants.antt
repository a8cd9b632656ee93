use Rattle.std.proofs.Common.{◌≡◌, ◌+◌, ◌++◌, drop, map}
use Rattle.cert_values.specs.Values.{line_of}
use Rattle.cert_format.specs.Lines.{ground_line_by}
use Rattle.cert_format.specs.Text.{numbered_lines}
use Rattle.cert_text.proofs.listing.push_grounds.Given as goal

abbrev pub invariant-loop-i : goal.invariant-loop-i
invariant-loop-i l =
    l.pen ++ numbered_lines ground_line_by (l.i + 1) (map (line_of l.bank) (drop l.i l.lines))
    ≡ l.initial.pen ++ numbered_lines ground_line_by 1 (map (line_of l.bank) l.lines)
