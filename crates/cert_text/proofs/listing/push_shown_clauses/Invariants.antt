use Rattle.std.proofs.Common.{◌≡◌, ◌+◌, ◌++◌, drop, map}
use Rattle.term_bank.specs.Forest.{clause_at}
use Rattle.cert_values.specs.Values.{by_of}
use Rattle.cert_format.specs.Lines.{shown_line}
use Rattle.cert_format.specs.Text.{paired_lines}
use Rattle.cert_text.proofs.listing.push_shown_clauses.Given as goal

abbrev pub invariant-loop-i : goal.invariant-loop-i
invariant-loop-i l =
    l.pen ++ paired_lines shown_line (l.before + l.i + 1) (map (clause_at l.bank) (drop l.i l.clauses)) (map (by_of l.bank) (drop (l.before + l.i) l.shown))
    ≡ l.initial.pen ++ paired_lines shown_line (l.before + 1) (map (clause_at l.bank) l.clauses) (map (by_of l.bank) (drop l.before l.shown))
