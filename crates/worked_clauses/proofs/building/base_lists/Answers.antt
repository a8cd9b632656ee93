use Rattle.term_bank.proofs.Growth.{extends_trans}
use Rattle.cert_values.proofs.Grown.{clauses_grown}
use Rattle.worked_clauses.proofs.building.base_lists.Goals as goal

pub returns : goal.returns
returns c =
    let e = c.clauses_in.new.bank in
    let f = c.clauses_in-2.new.bank in
    let g = c.members_in.new.bank in
    record {
      formed = c.members_in.ensures.formed;
      inputs = clauses_grown e g (extends_trans e f g c.clauses_in-2.ensures.extends c.members_in.ensures.extends) c.in_ok-inputs.inputs c.in_ok-inputs.ensures.ids;
      axioms = clauses_grown f g c.members_in.ensures.extends c.in_ok-axioms.axioms c.in_ok-axioms.ensures.ids;
      members = c.in_ok-members.ensures.members;
    }
