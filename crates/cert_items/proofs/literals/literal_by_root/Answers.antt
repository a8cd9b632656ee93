use Rattle.std.proofs.Common.{subst}
use Rattle.cert_items.specs.Reading.{NoTerm}
use Rattle.cert_items.specs.declared.literals.Root.{Root}
use Rattle.cert_items.specs.Roots.{IsRootAt}
use Rattle.cert_items.proofs.Reading.{is_none, is_some}
use Rattle.cert_items.proofs.Roots.{no_first, no_variable_alone}
use Rattle.cert_items.proofs.literals.literal_by_root.Goals as goal
use Rattle.term_bank.proofs.Growth.{grows_trans}

pub returns-in_default-clause-none : goal.returns-in_default-clause-none
returns-in_default-clause-none c mark_ = no_first c.args.bytes.now mark_ (is_none c.in_ok-root.field-0 (NoTerm c.args.bytes.now) c.in_default.is c.in_ok-root.ensures.none)

pub returns-in_default-root-clause-none : goal.returns-in_default-root-clause-none
returns-in_default-root-clause-none c mark_ =
    let a = is_some c.in_ok-root.field-0 (c.in-Some.root, c.in-Some.rest) (λ p. IsRootAt c.head.new.bank p.0 c.head.new.ids.items c.args.bytes.now p.1.now) c.in-Some.is c.in_ok-root.ensures.some in
    let b = subst (λ (r : Root). IsRootAt c.head.new.bank r c.head.new.ids.items c.args.bytes.now c.in-Some.rest.now) c.in_default-root.is a in
    no_variable_alone c.in_default-root.field-0 c.args.bytes.now c.in-Some.rest.now mark_ b c.in_default-equality_sign.ensures.none

pub returns-in_err-l-clause-grows : goal.returns-in_err-l-clause-grows
returns-in_err-l-clause-grows c = grows_trans c.args.bank.now c.head.new.bank c.predicate.new.bank c.head.ensures.grows c.predicate.ensures.grows

pub returns-clause-grows : goal.returns-clause-grows
returns-clause-grows c = grows_trans c.args.bank.now c.head.new.bank c.predicate.new.bank c.head.ensures.grows c.predicate.ensures.grows

pub returns-in-Some-equality_sign-clause-grows : goal.returns-in-Some-equality_sign-clause-grows
returns-in-Some-equality_sign-clause-grows c =
    grows_trans c.args.bank.now c.whole.new.bank c.equal.new.bank (grows_trans c.args.bank.now c.head.new.bank c.whole.new.bank c.head.ensures.grows c.whole.ensures.grows) c.equal.ensures.grows
