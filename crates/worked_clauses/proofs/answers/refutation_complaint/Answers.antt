use Rattle.worked_clauses.proofs.answers.refutation_complaint.Goals as goal

pub refusal_of-requires : goal.refusal_of-requires
refusal_of-requires c = record {
  base = record { bank = c.refutation_lists.ensures.formed; inputs = c.in-Ok.ensures.inputs; axioms = c.in-Ok.ensures.axioms; members = c.in-Ok.ensures.members };
  grounds = c.in-Ok.ensures.grounds;
  steps = c.in-Ok.ensures.steps;
}
