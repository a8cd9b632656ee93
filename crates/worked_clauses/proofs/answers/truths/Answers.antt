use Rattle.worked_clauses.proofs.answers.truths.Goals as goal

pub truths_by-requires : goal.truths_by-requires
truths_by-requires c = record { bank = c.base_lists.ensures.formed; inputs = c.in-Ok.ensures.inputs; axioms = c.in-Ok.ensures.axioms; members = c.in-Ok.ensures.members }
