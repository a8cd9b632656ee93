use Rattle.std.proofs.Common.{◌≡◌, ◌+◌, ◌++◌, drop, map}
use Rattle.term_bank.specs.Forest.{clause_at}
use Rattle.cert_format.specs.Lines.{axiom_line}
use Rattle.cert_format.specs.Text.{numbered_lines}
use Rattle.cert_text.proofs.listing.push_axioms.Given as goal

abbrev pub invariant-loop-i : goal.invariant-loop-i
invariant-loop-i l =
    l.pen ++ numbered_lines axiom_line (l.i + 1) (map (clause_at l.bank) (drop l.i l.clauses))
    ≡ l.initial.pen ++ numbered_lines axiom_line 1 (map (clause_at l.bank) l.clauses)
