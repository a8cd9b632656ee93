use Rattle.cert_items.proofs.Formed.{predicate_formed}
use Rattle.cert_items.proofs.Roots.{plain_literal}
use Rattle.cert_items.proofs.literals.predicate.Goals as goal

pub returns-clause-at : goal.returns-clause-at
returns-clause-at c bytes rest a unequal_ = plain_literal c.args.bank.now c.apply.new.bank c.args.positive c.in_ok-atom.atom c.args.name.now c.args.ids.now bytes rest a unequal_ c.in_ok-atom.ensures.at

pub returns-in_err-atom-clause-grows : goal.returns-in_err-atom-clause-grows
returns-in_err-atom-clause-grows c = (c.apply.ensures.extends, λ old. c.apply.ensures.formed old (λ n. predicate_formed c.args.bank.now c.args.ids.now n c.requires.printable))

pub returns-clause-grows : goal.returns-clause-grows
returns-clause-grows c = (c.apply.ensures.extends, λ old. c.apply.ensures.formed old (λ n. predicate_formed c.args.bank.now c.args.ids.now n c.requires.printable))
