use Rattle.cert_items.proofs.Remembered.{names_later}
use Rattle.cert_items.proofs.text_bank.apply.Goals as goal

pub invariant_of-bank : goal.invariant_of-bank
invariant_of-bank c =
    let inside = c.bank.inside in
    names_later inside.bank c.symbol_application.new.bank inside.known.entries c.symbol_application.new.known.entries inside.variables.items inside.recent.literals.items c.symbol_application.ensures.extends c.symbol_application.ensures.known c.bank.invariant
