use Rattle.std.proofs.Common.{◌∙◌, arith}
use Rattle.szs_prove.proofs.Decided.{printable_problem}
use Rattle.szs_prove.proofs.chain_problem.chain_problem.Goals as goal

pub returns-clause-printable : goal.returns-clause-printable
returns-clause-printable c =
    printable_problem c.args.n c.in_ok-clauses.clauses c.in_ok-names.names (omega arith) c.in_ok-clauses.ensures (c.in_ok-names.ensures.count ∙ c.len.ensures) c.in_ok-names.ensures.readable
