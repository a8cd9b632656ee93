use Rattle.std.proofs.Common.{◌≡◌, ◌+◌, ◌++◌, drop, map}
use Rattle.cert_values.specs.Values.{entry_of}
use Rattle.cert_format.specs.Lines.{member_line}
use Rattle.cert_format.specs.Text.{numbered_lines}
use Rattle.cert_text.proofs.listing.push_members.Given as goal

abbrev pub invariant-loop-i : goal.invariant-loop-i
invariant-loop-i l =
    l.pen ++ numbered_lines member_line (l.i + 1) (map (entry_of l.bank) (drop l.i l.members))
    ≡ l.initial.pen ++ numbered_lines member_line 1 (map (entry_of l.bank) l.members)
