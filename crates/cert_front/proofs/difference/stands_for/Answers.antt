use Rattle.cert_front.proofs.Differing.{stands}
use Rattle.cert_front.proofs.difference.stands_for.Goals as goal

pub returns-clause-same : goal.returns-clause-same
returns-clause-same c =
    stands c.args.bank.now c.clause.new.self c.clause.ensures.extends c.distinct.ensures c.args.ids.now c.in_ok-own.own c.args.clause.now c.requires.ids c.in_ok-own.ensures.at c.same_clause.result
    c.same_clause.ensures
