use Rattle.worked_solvers.proofs.trails.add.Goals as goal

pub returns-clause-attached : goal.returns-clause-attached
returns-clause-attached c = c.in_ok-attach.ensures.attached c.args.clauses.now c.add.new.self c.args.clause.now c.in_ok-n.ensures.number c.requires.attached
