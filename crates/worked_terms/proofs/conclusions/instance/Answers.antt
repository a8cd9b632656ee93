use Rattle.std.proofs.Common.{◌≤◌, arith}
use Rattle.term_bank.specs.Forest.{clause_at}
use Rattle.clause_form.specs.Conclusions.{up_to}
use Rattle.clause_form.proofs.Greatest.{variables_up_to}
use Rattle.worked_terms.proofs.conclusions.instance.Goals as goal

pub under-requires-clause-each : goal.under-requires-clause-each
under-requires-clause-each c =
    let count = variables_up_to (clause_at c.args.bank.now c.args.c.now) c.greatest_variable.result c.requires.canonical c.greatest_variable.ensures in
    let enough : up_to c.greatest_variable.result ≤ c.len.result = c.are_enough.ensures.0 c.if-are_enough.true in
    omega (arith, count, enough, c.len.ensures)
