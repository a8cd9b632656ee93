use Rattle.cert_items.proofs.Remembered.{remembered_later}
use Rattle.cert_items.proofs.text_bank.is_canonical.Goals as goal

pub invariant_of-bank : goal.invariant_of-bank
invariant_of-bank c =
    let inside = c.bank.inside in
    remembered_later inside.bank c.is_canonical.new.bank inside.known.entries inside.variables.items inside.recent.literals.items c.is_canonical.ensures.grows.0 c.bank.invariant
