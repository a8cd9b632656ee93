use Rattle.std.proofs.Common.{◌≡◌, true, sym, ◌∙◌, subst}
use Rattle.std.specs.Prelude.{Option, Some, None, IfSome}
use Rattle.std.specs.Option as option
use Rattle.cert_items.specs.Reading.{NoTerm}
use Rattle.cert_items.specs.declared.literals.Root.{Root}
use Rattle.cert_items.specs.Roots.{IsRootAt}
use Rattle.cert_items.proofs.Reading.{is_none, is_some}
use Rattle.cert_items.proofs.Roots.{no_negated_term, no_negated_variable, no_negated_equation}
use Rattle.cert_items.proofs.literals.negative_literal.Goals as goal
use Rattle.term_bank.proofs.Growth.{grows_trans}

pub returns-in_default-clause-none : goal.returns-in_default-clause-none
returns-in_default-clause-none c = no_negated_term c.args.bytes.now (is_none c.in_ok-root.field-0 (NoTerm c.args.bytes.now) c.in_default.is c.in_ok-root.ensures.none)

pub returns-in_default-root-clause-none : goal.returns-in_default-root-clause-none
returns-in_default-root-clause-none c =
    let a = is_some c.in_ok-root.field-0 (c.in-Some.root, c.in-Some.rest) (λ p. IsRootAt c.head.new.bank p.0 c.head.new.ids.items c.args.bytes.now p.1.now) c.in-Some.is c.in_ok-root.ensures.some in
    no_negated_variable c.in_default-root.field-0 c.args.bytes.now c.in-Some.rest.now (subst (λ (r : Root). IsRootAt c.head.new.bank r c.head.new.ids.items c.args.bytes.now c.in-Some.rest.now) c.in_default-root.is a)

-- what is there where the test says so
some_there : {A : Type 0} (r : Option A) (P : A → Type 0) → option.is_some r ≡ true → IfSome r P → (x : A) × P x
some_there None P e h = absurd cc
some_there (Some x) P e h = (x, h)

pub returns-then-is_some-clause-none : goal.returns-then-is_some-clause-none
returns-then-is_some-clause-none c =
    let a = is_some c.in_ok-root.field-0 (c.in-Some.root, c.in-Some.rest) (λ p. IsRootAt c.head.new.bank p.0 c.head.new.ids.items c.args.bytes.now p.1.now) c.in-Some.is c.in_ok-root.ensures.some in
    let b = subst (λ (r : Root). IsRootAt c.head.new.bank r c.head.new.ids.items c.args.bytes.now c.in-Some.rest.now) c.in-Application.is a in
    let s = some_there c.equality_sign.result _ (sym c.is_some.ensures ∙ c.if-is_some.true) c.equality_sign.ensures.some in
    no_negated_equation c.head.new.bank c.in-Application.name.now c.head.new.ids.items c.args.bytes.now c.in-Some.rest.now b (s.0.0, s.0.1.now, s.1)

pub returns-in_err-l-clause-grows : goal.returns-in_err-l-clause-grows
returns-in_err-l-clause-grows c = grows_trans c.args.bank.now c.head.new.bank c.predicate.new.bank c.head.ensures.grows c.predicate.ensures.grows

pub returns-clause-grows : goal.returns-clause-grows
returns-clause-grows c = grows_trans c.args.bank.now c.head.new.bank c.predicate.new.bank c.head.ensures.grows c.predicate.ensures.grows
