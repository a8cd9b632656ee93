use Rattle.dimacs_front.proofs.DimacsLaws.{one_cnf}
use Rattle.dimacs_front.proofs.QdimacsLaws.{one_formula}
use Rattle.dimacs_front.proofs.laws.one_spelling.Goals as goal

pub returns-clause-clauses : goal.returns-clause-clauses
returns-clause-clauses c = one_cnf

pub returns-clause-formulas : goal.returns-clause-formulas
returns-clause-formulas c = one_formula
