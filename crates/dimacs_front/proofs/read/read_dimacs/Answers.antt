use Rattle.dimacs_front.proofs.DimacsLaws.{dimacs_of, refusal_of, never_twice_of}
use Rattle.dimacs_front.proofs.read.read_dimacs.Goals as goal

pub returns-clause-dimacs : goal.returns-clause-dimacs
returns-clause-dimacs c = dimacs_of c.args.text.now _ c.read_text.ensures.read

pub returns-clause-refused : goal.returns-clause-refused
returns-clause-refused c = refusal_of c.args.text.now _ c.read_text.ensures.read

pub returns-clause-once : goal.returns-clause-once
returns-clause-once c = never_twice_of c.args.text.now _ c.read_text.ensures.read
