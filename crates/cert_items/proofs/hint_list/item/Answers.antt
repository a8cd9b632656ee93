use Rattle.cert_values.specs.Values.{hint_of}
use Rattle.cert_items.proofs.Hints.{no_item, no_end}
use Rattle.cert_items.proofs.hint_list.item.Goals as goal

pub returns-in_default-clause-none : goal.returns-in_default-clause-none
returns-in_default-clause-none c = no_item c.args.rest.now c.in_default.ensures.none

pub returns-in_default-go_on-clause-none : goal.returns-in_default-go_on-clause-none
returns-in_default-go_on-clause-none c =
    let s = c.in-Some.ensures.some in
    no_end c.args.rest.now c.in-Some.after.now (hint_of c.in-Some.h) s.0 s.1 s.2 c.in_default-go_on.ensures.none
