use Rattle.worked_clauses.proofs.answers.saturation_complaint.Goals as goal

pub complaint_of-requires : goal.complaint_of-requires
complaint_of-requires c = record { bank = c.base_lists.ensures.formed; inputs = c.in-Ok.ensures.inputs; axioms = c.in-Ok.ensures.axioms; members = c.in-Ok.ensures.members }
