use Rattle.std.proofs.Common.{subst}
use Rattle.std.specs.Prelude.{IfOk}
use Rattle.inst_logic.specs.Clauses.{TreeClause}
use Rattle.term_bank.specs.Forest.{IsClauseAt, clause_at}
use Rattle.cert_check.proofs.GroundMembers.{same_instance}
use Rattle.cert_check.proofs.grounds.built_under.Goals as goal

pub returns-clause-instance : goal.returns-clause-instance
returns-clause-instance c =
    let same = same_instance c.args.bank.now c.in_ok-terms.terms c.args.term (clause_at c.args.bank.now c.args.c.now) c.requires.canonical c.in_ok-terms.ensures.enough c.in_ok-terms.ensures.same in
    subst (λ (x : TreeClause). IfOk c.under.result (λ d. IsClauseAt c.under.new.bank d x)) same c.under.ensures.instance
