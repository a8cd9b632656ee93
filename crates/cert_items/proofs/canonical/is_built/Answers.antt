use Rattle.cert_items.proofs.CanonicalIds.{canonical_yes, canonical_no}
use Rattle.cert_items.proofs.canonical.is_built.Goals as goal

pub returns-clause-is : goal.returns-clause-is
returns-clause-is c = (
  λ yes. canonical_yes c.args.bank.now c.canonical.new.bank c.args.c.now c.in_ok-d.d c.canonical.ensures.extends c.requires c.in_ok-d.ensures.canonical (c.variant.ensures.same.0 yes),
  λ is. c.variant.ensures.same.1 (canonical_no c.args.bank.now c.canonical.new.bank c.args.c.now c.in_ok-d.d c.canonical.ensures.extends c.len.ensures.distinct c.requires c.in_ok-d.ensures.canonical is),
)
