use Rattle.term_bank.proofs.Maps.{numbered}
use Rattle.term_bank.proofs.store.node_number.Goals as goal

pub returns-clause-numbered : goal.returns-clause-numbered
returns-clause-numbered c =
    rw (c.of.ensures, c.in_ok-number.ensures.keys, c.in_ok-number.ensures.index, c.in_ok-number.ensures.added) (numbered c.args.nodes.now.keys c.args.node)
