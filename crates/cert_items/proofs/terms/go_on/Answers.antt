use Rattle.cert_items.proofs.Reading.{comma}
use Rattle.cert_items.proofs.terms.go_on.Goals as goal

pub returns-in-Some-clause-some : goal.returns-in-Some-clause-some
returns-in-Some-clause-some c = comma c.args.bank.now c.args.text.now c.args.opens.now.items c.args.ids.now.items c.args.rest.now c.in-Some.rest.now c.requires c.in-Some.ensures.some
