use Rattle.std.proofs.Common.{subst}
use Rattle.szs_prove.specs.Decisions.{IsVerdict}
use Rattle.szs_prove.specs.ModelAnswers.{flattened_problem}
use Rattle.szs_prove.proofs.ModelTexts.{shown_refuted, shown_satisfied, text_with_tables, text_without}
use Rattle.szs_prove.proofs.model.text_of.Goals as goal

pub unsatisfiable_text-requires-clause-shown : goal.unsatisfiable_text-requires-clause-shown
unsatisfiable_text-requires-clause-shown c = shown_refuted (flattened_problem c.args.k c.args.p.now) c.in-Unsatisfiable.cert c.args.decision c.requires.decision c.in-Unsatisfiable.is

pub satisfiable_text-requires-clause-shown : goal.satisfiable_text-requires-clause-shown
satisfiable_text-requires-clause-shown c = shown_satisfied (flattened_problem c.args.k c.args.p.now) c.in-Satisfiable.cert c.args.decision c.requires.decision c.in-Satisfiable.is

pub unreachable-requires : goal.unreachable-requires
unreachable-requires c = subst IsVerdict c.in-OutOfBudget.is c.requires.verdict

pub returns-in-Unsatisfiable : goal.returns-in-Unsatisfiable
returns-in-Unsatisfiable c = text_without c.args.k c.args.file.now c.args.p.now c.requires.narrow c.unsatisfiable_text.result c.unsatisfiable_text.ensures

pub returns-in-Satisfiable : goal.returns-in-Satisfiable
returns-in-Satisfiable c = text_with_tables c.args.k c.args.file.now c.args.p.now c.requires.narrow c.satisfiable_text.result c.satisfiable_text.ensures
