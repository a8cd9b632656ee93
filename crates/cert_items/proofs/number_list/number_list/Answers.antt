use Rattle.cert_items.specs.NumberTexts.{NoSomeNumbers}
use Rattle.cert_items.proofs.Reading.{is_none}
use Rattle.cert_items.proofs.NumberLists.{not_closed}
use Rattle.cert_items.proofs.number_list.number_list.Goals as goal

pub returns-in_default-2-clause-none : goal.returns-in_default-2-clause-none
returns-in_default-2-clause-none c =
    let k = c.in_ok-rest in
    not_closed c.args.letter.now c.args.bytes.now c.in_default.ensures.none (is_none k.field-0 (NoSomeNumbers c.args.letter.now c.args.bytes.now) c.in_default-2.is k.ensures.none)
