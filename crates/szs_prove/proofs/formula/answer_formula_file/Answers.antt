use Rattle.szs_prove.proofs.AnsweredFormulas.{outcome_of}
use Rattle.szs_prove.proofs.formula.answer_formula_file.Goals as goal

pub returns-in-Ok-clause-outcome : goal.returns-in-Ok-clause-outcome
returns-in-Ok-clause-outcome g c = outcome_of (g.L.Library.told c.args.files.now) (g.L.Library.told c.read_file.new.files) c.args.file.now c.in-Ok.text.items c.answer_text.result c.in-Ok.ensures.ok (rw c.as_slice.ensures.value at c.answer_text.ensures)
