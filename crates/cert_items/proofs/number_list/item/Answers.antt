use Rattle.cert_items.proofs.NumberLists.{no_mark, no_number, no_end}
use Rattle.cert_items.proofs.number_list.item.Goals as goal

pub returns-in_default-clause-none : goal.returns-in_default-clause-none
returns-in_default-clause-none c = no_mark c.args.letter.now c.args.rest.now c.in_default.ensures.none

pub returns-in_default-number-clause-none : goal.returns-in_default-number-clause-none
returns-in_default-number-clause-none c = no_number c.args.letter.now c.args.rest.now c.in-Some.digits.now c.in-Some.ensures.some c.in_default-number.ensures.none

pub returns-in_default-go_on-clause-none : goal.returns-in_default-go_on-clause-none
returns-in_default-go_on-clause-none c =
    let s = c.in-Some-number in
    no_end c.args.letter.now c.args.rest.now c.in-Some.digits.now s.after.now s.n c.in-Some.ensures.some s.ensures.some.0 s.ensures.fits s.ensures.some.1 c.in_default-go_on.ensures.none
