use Rattle.term_bank.proofs.Clauses.{clause_of_extends, clause_extends, atoms_extend}
use Rattle.term_bank.proofs.laws.clauses_stay.Goals as goal

pub returns-clause-ids : goal.returns-clause-ids
returns-clause-ids c f g ls e = clause_of_extends f g e ls

pub returns-clause-trees : goal.returns-clause-trees
returns-clause-trees c f g ls e = clause_extends f g e ls

pub returns-clause-atoms : goal.returns-clause-atoms
returns-clause-atoms c f g ls e = atoms_extend f g e ls
