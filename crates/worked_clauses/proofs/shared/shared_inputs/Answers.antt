use Rattle.std.proofs.Common.{true}
use Rattle.worked_clauses.proofs.Formed.{only_whole}
use Rattle.worked_clauses.proofs.shared.shared_inputs.Goals as goal

pub returns : goal.returns
returns c = record {
  formed = c.shared_atom.ensures.formed;
  inputs = only_whole c.shared_atom.new.bank (record { positive = true; atom = c.in_ok-atom.atom }) c.new-clause.result c.push.new.self c.new-inputs.result c.push-2.new.self
      c.new-clause.ensures c.in_ok-push.ensures.ok c.new-inputs.ensures c.in_ok-push-2.ensures.ok c.in_ok-atom.ensures.atom;
}
