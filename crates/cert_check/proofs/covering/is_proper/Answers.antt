use Rattle.cert_check.proofs.Closings.{proper_first, proper_second}
use Rattle.cert_check.proofs.covering.is_proper.Goals as goal

pub returns-then-proper : goal.returns-then-proper
returns-then-proper c = proper_first c.args.bank.now c.args.bindings.now.entries (c.proper.ensures.yes c.if-proper.true)

pub returns : goal.returns
returns c = proper_second c.args.bank.now c.args.bindings.now.entries c.proper-2.result (c.proper.ensures.no c.if-proper.false) c.proper-2.ensures.yes c.proper-2.ensures.no
