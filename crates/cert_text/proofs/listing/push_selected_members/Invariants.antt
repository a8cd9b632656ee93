use Rattle.std.proofs.Common.{◌≡◌, ◌+◌, ◌++◌, drop, map}
use Rattle.cert_values.specs.Values.{entry_of}
use Rattle.cert_format.specs.Lines.{selected_line}
use Rattle.cert_format.specs.Text.{paired_lines}
use Rattle.cert_text.proofs.listing.push_selected_members.Given as goal

abbrev pub invariant-loop-i : goal.invariant-loop-i
invariant-loop-i l =
    l.pen ++ paired_lines selected_line (l.i + 1) (map (entry_of l.bank) (drop l.i l.members)) (drop l.i l.places)
    ≡ l.initial.pen ++ paired_lines selected_line 1 (map (entry_of l.bank) l.members) l.places
