use Rattle.szs_prove.proofs.prove.certificate.Goals as goal

pub decide-requires-clause-problem : goal.decide-requires-clause-problem
decide-requires-clause-problem c = c.loaded_problems_are_printable.ensures c.args.problem.now c.requires.problem
