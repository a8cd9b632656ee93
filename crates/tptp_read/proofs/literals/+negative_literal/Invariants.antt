use Rattle.tptp_read.proofs.literals.+negative_literal.Given as goal

abbrev pub decreases-negative_literal : goal.decreases-negative_literal
decreases-negative_literal l = l.nesting
