use Rattle.szs_prove.proofs.Proved.{refuted_text, satisfied_text, stopped}
use Rattle.szs_prove.proofs.prove.text_of.Goals as goal

pub returns-in_ok-refutation-in-Unsatisfiable-clause-ok : goal.returns-in_ok-refutation-in-Unsatisfiable-clause-ok
returns-in_ok-refutation-in-Unsatisfiable-clause-ok c =
    refuted_text c.args._problem.now c.args.budget c.args.file.now c.in_ok-refutation-in-Unsatisfiable.refutation c.args.decision c.requires c.in-Unsatisfiable.cert c.in-Unsatisfiable.is c.in_ok-refutation-in-Unsatisfiable.ensures

pub returns-in_ok-saturation-in-Satisfiable-clause-ok : goal.returns-in_ok-saturation-in-Satisfiable-clause-ok
returns-in_ok-saturation-in-Satisfiable-clause-ok c =
    satisfied_text c.args._problem.now c.args.budget c.args.file.now c.in_ok-saturation-in-Satisfiable.saturation c.args.decision c.requires c.in-Satisfiable.cert c.in-Satisfiable.is c.in_ok-saturation-in-Satisfiable.ensures

pub returns-in-OutOfBudget-clause-err : goal.returns-in-OutOfBudget-clause-err
returns-in-OutOfBudget-clause-err c = stopped c.args._problem.now c.args.budget c.in-OutOfBudget.left c.in-OutOfBudget.wanted c.args.decision c.requires c.in-OutOfBudget.is
