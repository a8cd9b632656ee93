use Rattle.std.proofs.Common.{sym}
use Rattle.term_bank.proofs.Maps.{node_found}
use Rattle.term_bank.proofs.store.found_number.Goals as goal

pub returns-in-Some : goal.returns-in-Some
returns-in-Some c = rw c.of.ensures (node_found c.args.nodes.now.keys c.args.node.now c.in-Some.number (sym c.in-Some.ensures.index))
