use Rattle.cert_items.specs.Reading.{NoTerm}
use Rattle.inst_logic.specs.Printing.{equality_sign}
use Rattle.std.proofs.Common.{◌++◌}
use Rattle.cert_items.specs.Roots.{IsTermAt}
use Rattle.cert_items.proofs.Reading.{is_none, is_some}
use Rattle.cert_items.proofs.Roots.{no_right, equal_literal, kept_term}
use Rattle.cert_items.proofs.literals.equal.Goals as goal
use Rattle.term_bank.proofs.Growth.{grows_trans}

pub returns-in-Ok-None-clause-none : goal.returns-in-Ok-None-clause-none
returns-in-Ok-None-clause-none c mark_ = no_right c.args.bank.now c.args.left c.args.positive c.args.bytes.now c.args.after.now mark_ (record { within = c.requires.within; is = c.requires.is; printable = c.requires.printable; follows = c.requires.follows }) (is_none c.in-Ok-None.field-0 (NoTerm c.args.after.now) c.in-Ok-None.field-0-is c.in-Ok-None.ensures.none)

pub returns-in_ok-l-in-Ok-Some-clause-some : goal.returns-in_ok-l-in-Ok-Some-clause-some
returns-in_ok-l-in-Ok-Some-clause-some c =
    equal_literal c.term.new.bank c.equation.new.bank c.in_ok-l-in-Ok-Some.l c.args.positive c.args.left c.in-Ok-Some.right c.args.bytes.now c.args.after.now c.in-Ok-Some.rest.now
    (kept_term c.args.bank.now c.term.new.bank c.args.left c.args.bytes.now (equality_sign c.args.positive ++ c.args.after.now) c.term.ensures.grows.0 (record { within = c.requires.within; is = c.requires.is; printable = c.requires.printable; follows = c.requires.follows }))
    (is_some c.in-Ok-Some.field-0 (c.in-Ok-Some.right, c.in-Ok-Some.rest) (λ p. IsTermAt c.term.new.bank p.0 c.args.after.now p.1.now) c.in-Ok-Some.field-0-is c.in-Ok-Some.ensures.some) c.in_ok-l-in-Ok-Some.ensures.at.0 c.in_ok-l-in-Ok-Some.ensures.at.1

pub returns-in_err-l-in-Ok-Some-clause-grows : goal.returns-in_err-l-in-Ok-Some-clause-grows
returns-in_err-l-in-Ok-Some-clause-grows c = grows_trans c.args.bank.now c.term.new.bank c.equation.new.bank c.term.ensures.grows c.equation.ensures.grows

pub returns-in_ok-l-in-Ok-Some-clause-grows : goal.returns-in_ok-l-in-Ok-Some-clause-grows
returns-in_ok-l-in-Ok-Some-clause-grows c = grows_trans c.args.bank.now c.term.new.bank c.equation.new.bank c.term.ensures.grows c.equation.ensures.grows
