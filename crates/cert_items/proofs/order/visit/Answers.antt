use Rattle.std.specs.Prelude.{reverse}
use Rattle.cert_items.proofs.Orders.{met_before, passed_size}
use Rattle.cert_items.proofs.order.visit.Goals as goal

pub returns-in-None-clause-size : goal.returns-in-None-clause-size
returns-in-None-clause-size c = passed_size c.args.bank.now c.args.id (reverse c.args.left.now.items)

pub returns-then-greatest-met-clause-order : goal.returns-then-greatest-met-clause-order
returns-then-greatest-met-clause-order c h = met_before c.args.bank.now c.args.met c.args.id c.in-Some.greatest (reverse c.args.left.now.items) c.in-Some.ensures c.if-greatest-met.true h

pub returns-then-greatest-met-clause-size : goal.returns-then-greatest-met-clause-size
returns-then-greatest-met-clause-size c = passed_size c.args.bank.now c.args.id (reverse c.args.left.now.items)
