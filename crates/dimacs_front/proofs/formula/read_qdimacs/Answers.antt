use Rattle.dimacs_front.proofs.QdimacsLaws.{qdimacs_of, refusal_of}
use Rattle.dimacs_front.proofs.formula.read_qdimacs.Goals as goal

pub returns-clause-qdimacs : goal.returns-clause-qdimacs
returns-clause-qdimacs c = qdimacs_of c.args.text.now _ c.read_text.ensures.read

pub returns-clause-refused : goal.returns-clause-refused
returns-clause-refused c = refusal_of c.args.text.now _ c.read_text.ensures.read
