use Rattle.std.proofs.lemmas.Result.{IfOk-weaker}
use Rattle.cert_items.specs.Reading.{IsStuck, NoTerm, NoTerms}
use Rattle.cert_items.proofs.Reading.{is_due, is_read, none_weaker, no_term, no_more, not_at}
use Rattle.cert_items.proofs.terms.step.Goals as goal

pub go_on-requires : goal.go_on-requires
go_on-requires c = is_read c.args.left.due c.args.bank.now c.args.text.now c.args.opens.now.items c.args.ids.now.items c.args.left.rest.now c.if-left.false c.requires.state

pub returns-then-left-clause-some : goal.returns-then-left-clause-some
returns-then-left-clause-some c = c.begin.ensures.some c.args.text.now (is_due c.args.left.due c.args.bank.now c.args.text.now c.args.opens.now.items c.args.ids.now.items c.args.left.rest.now c.if-left.true c.requires.state)

pub returns-then-left-clause-none : goal.returns-then-left-clause-none
returns-then-left-clause-none c =
    let d = is_due c.args.left.due c.args.bank.now c.args.text.now c.args.opens.now.items c.args.ids.now.items c.args.left.rest.now c.if-left.true c.requires.state in
    IfOk-weaker c.begin.result _ _ (λ r h. none_weaker r (NoTerm c.args.left.rest.now) (NoTerms c.args.text.now c.args.close) (no_term _ _ _ _ _ c.args.close c.requires.close d) h) c.begin.ensures.none

pub returns-else-left-clause-none : goal.returns-else-left-clause-none
returns-else-left-clause-none c =
    let d = is_read c.args.left.due c.args.bank.now c.args.text.now c.args.opens.now.items c.args.ids.now.items c.args.left.rest.now c.if-left.false c.requires.state in
    IfOk-weaker c.go_on.result _ _
    (λ r h. none_weaker r (IsStuck c.args.opens.now.items c.args.left.rest.now) (NoTerms c.args.text.now c.args.close) (λ s. no_more _ _ _ _ _ c.args.close c.requires.close d s (λ e. not_at c.args.close c.args.left.rest.now (c.requires.goes_on c.if-left.false e))) h) c.go_on.ensures.none
