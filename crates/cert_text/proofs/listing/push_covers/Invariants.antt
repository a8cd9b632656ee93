use Rattle.std.proofs.Common.{◌≡◌, ◌+◌, ◌++◌, drop, map}
use Rattle.cert_values.specs.Values.{cover_of}
use Rattle.cert_format.specs.Lines.{cover_line}
use Rattle.cert_format.specs.Text.{numbered_lines}
use Rattle.cert_text.proofs.listing.push_covers.Given as goal

abbrev pub invariant-loop-i : goal.invariant-loop-i
invariant-loop-i l =
    l.pen ++ numbered_lines cover_line (l.i + 1) (map (cover_of l.bank) (drop l.i l.covers))
    ≡ l.initial.pen ++ numbered_lines cover_line 1 (map (cover_of l.bank) l.covers)
