use Rattle.std.proofs.Common.{◌≡◌, ◌+◌, ◌++◌, drop, map}
use Rattle.term_bank.specs.Forest.{clause_at}
use Rattle.cert_format.specs.Lines.{input_line}
use Rattle.cert_format.specs.Text.{paired_lines}
use Rattle.cert_text.proofs.listing.push_inputs.Given as goal

abbrev pub invariant-loop-i : goal.invariant-loop-i
invariant-loop-i l =
    l.pen ++ paired_lines input_line (l.i + 1) (map (clause_at l.bank) (drop l.i l.clauses)) (drop l.i l.names)
    ≡ l.initial.pen ++ paired_lines input_line 1 (map (clause_at l.bank) l.clauses) l.names
