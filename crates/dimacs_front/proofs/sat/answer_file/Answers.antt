use Rattle.dimacs_front.proofs.AnsweredTexts.{outcome_of}
use Rattle.dimacs_front.proofs.sat.answer_file.Goals as goal

pub returns-in-Ok-clause-outcome : goal.returns-in-Ok-clause-outcome
returns-in-Ok-clause-outcome g c = outcome_of (g.L.Library.told c.args.files.now) (g.L.Library.told c.read_file.new.files) c.args.name.now c.in-Ok.text.items c.answer_text.result c.in-Ok.ensures.ok (rw c.as_slice.ensures.value at c.answer_text.ensures)
