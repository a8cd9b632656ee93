use Rattle.cert_items.proofs.Remembered.{remembered_later}
use Rattle.cert_items.proofs.text_bank.TextBank.app.Goals as goal

pub invariant_of-self : goal.invariant_of-self
invariant_of-self c =
    let inside = c.self.inside in
    remembered_later inside.bank c.app.new.self inside.known.entries inside.variables.items inside.recent.literals.items c.app.ensures.extends c.self.invariant
