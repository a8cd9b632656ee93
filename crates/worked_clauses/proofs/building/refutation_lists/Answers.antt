use Rattle.cert_values.proofs.Grown.{clauses_grown, members_grown}
use Rattle.worked_clauses.proofs.building.refutation_lists.Goals as goal

pub returns : goal.returns
returns c =
    let f = c.base_lists.new.bank in
    let g = c.proof_lists.new.bank in
    let grown = c.proof_lists.ensures.extends in
    record {
      formed = c.proof_lists.ensures.formed;
      inputs = clauses_grown f g grown c.in_ok-base.base.inputs c.in_ok-base.ensures.inputs;
      axioms = clauses_grown f g grown c.in_ok-base.base.axioms c.in_ok-base.ensures.axioms;
      members = members_grown f g grown c.in_ok-base.base.members c.in_ok-base.ensures.members;
      grounds = c.in_ok-proof.ensures.grounds;
      steps = c.in_ok-proof.ensures.steps;
    }
