use Rattle.cert_inference.proofs.InstanceLaws.{instance_built}
use Rattle.cert_inference.proofs.comparison.is_instance.Goals as goal

pub returns-clause-instance : goal.returns-clause-instance
returns-clause-instance c =
    let f = c.args.bank.now in
    let of = c.args.of.now in
    instance_built f c.conclude_clause.new.bank c.conclude_clause.ensures.extends of.bindings.now.entries of.side of.clause.now c.args.clause.now c.in_ok-built.built c.requires.clause c.in_ok-built.ensures.made c.same_trees.result c.same_trees.ensures
