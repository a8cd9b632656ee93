use Rattle.term_bank.proofs.Growth.{extends_trans}
use Rattle.cert_values.proofs.Grown.{clauses_grown}
use Rattle.worked_clauses.proofs.building.proof_lists.Goals as goal

pub returns : goal.returns
returns c =
    let f = c.clauses_in.new.bank in
    let g = c.steps_in.new.bank in
    record {
      formed = c.steps_in.ensures.formed;
      extends = extends_trans c.args.bank.now f g c.clauses_in.ensures.extends c.steps_in.ensures.extends;
      grounds = clauses_grown f g c.steps_in.ensures.extends c.in_ok-grounds.grounds c.in_ok-grounds.ensures.ids;
      steps = c.in_ok-steps.ensures.steps;
    }
