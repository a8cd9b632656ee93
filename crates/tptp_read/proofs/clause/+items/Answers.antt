use Rattle.std.proofs.Common.{◌≡◌, ◌-◌, ◌∙◌, Err, Some, drop, sym, ap, subst, arith}
use Rattle.std.proofs.lemmas.Result.{err_from_is_err_and}
use Rattle.tptp_read.specs.ParseClause.{item_at}
use Rattle.tptp_read.specs.LexemeView.{toks, texts, Fails}
use Rattle.tptp_read.specs.Shapes.{seen}
use Rattle.tptp_read.specs.Gathered.{gathered}
use Rattle.tptp_read.proofs.Reading.{behind_toks}
use Rattle.tptp_read.proofs.GatherLaws.{gives_as, gives_err}
use Rattle.tptp_read.proofs.DisjunctionLaws.{of_item, item_single, item_deep, nested_first_fails, nested_others_fail, nested_unclosed, nested_read, items_go_on, items_end, items_done}
use Rattle.tptp_read.proofs.clause.+items.Goals as goal

pub item-returns-then-not-stands_at-clause-is : goal.item-returns-then-not-stands_at-clause-is
item-returns-then-not-stands_at-clause-is t c =
    gives_as _ c.single.result _ _ (item_single (texts c.args.reader.now.vars.now.keys) (gathered c.args.into.now) c.args.nesting c.args.depth (toks (drop c.args.at c.args.reader.now.tokens.now)) (sym c.stands_at.ensures.is ∙ c.if-not-stands_at.true)) c.single.ensures.is

pub item-returns-then-nesting-eq0-clause-is : goal.item-returns-then-nesting-eq0-clause-is
item-returns-then-nesting-eq0-clause-is t c =
    ap (λ r. seen (of_item (texts c.args.reader.now.vars.now.keys) (gathered c.args.into.now)) r)
    (item_deep c.args.nesting c.args.depth (toks (drop c.args.at c.args.reader.now.tokens.now)) (omega arith) (sym c.stands_at.ensures.is ∙ c.if-not-stands_at.false))

pub item-returns-in_err-after-clause-is : goal.item-returns-in_err-after-clause-is
item-returns-in_err-after-clause-is t c =
    let ls = c.args.reader.now.tokens.now in
    let vs = texts c.args.reader.now.vars.now.keys in
    let g = gathered c.args.into.now in
    let x = c.in_err-after.field-0.0 in
    let p = err_from_is_err_and c.from_residual.result c.from_residual.ensures.1 in
    let h = subst (λ us. Fails x (seen (of_item vs g) (item_at (c.args.nesting - 1) c.args.depth us))) (sym (behind_toks c.args.at ls)) c.in_err-after.ensures.is in
    gives_err _ c.from_residual.result x _ (p.1 ∙ ap Err p.2)
    (nested_first_fails x vs g c.args.nesting c.args.depth (toks (drop c.args.at ls)) (λ e. absurd (omega arith)) (sym c.stands_at.ensures.is ∙ c.if-not-stands_at.false) h)

pub item-returns-in_err-after-2-clause-is : goal.item-returns-in_err-after-2-clause-is
item-returns-in_err-after-2-clause-is t c =
    let ls = c.args.reader.now.tokens.now in
    let vs = texts c.args.reader.now.vars.now.keys in
    let g = gathered c.args.into.now in
    let x = c.in_err-after-2.field-0.0 in
    let p = err_from_is_err_and c.from_residual-in_err-after-2.result c.from_residual-in_err-after-2.ensures.1 in
    let h = subst (λ us. seen (of_item vs g) (item_at (c.args.nesting - 1) c.args.depth us) ≡ Some (gathered c.item.new.into, toks (drop c.in_ok-after.after ls))) (sym (behind_toks c.args.at ls)) c.in_ok-after.ensures.is in
    gives_err _ c.from_residual-in_err-after-2.result x _ (p.1 ∙ ap Err p.2)
    (nested_others_fail x vs g (gathered c.item.new.into) c.args.nesting c.args.depth (toks (drop c.args.at ls)) (toks (drop c.in_ok-after.after ls)) (λ e. absurd (omega arith)) (sym c.stands_at.ensures.is ∙ c.if-not-stands_at.false) h c.in_err-after-2.ensures.is)

pub item-returns-then-not-stands_at-2-clause-is : goal.item-returns-then-not-stands_at-2-clause-is
item-returns-then-not-stands_at-2-clause-is t c =
    let ls = c.args.reader.now.tokens.now in
    let vs = texts c.args.reader.now.vars.now.keys in
    let g = gathered c.args.into.now in
    let h = subst (λ us. seen (of_item vs g) (item_at (c.args.nesting - 1) c.args.depth us) ≡ Some (gathered c.item.new.into, toks (drop c.in_ok-after.after ls))) (sym (behind_toks c.args.at ls)) c.in_ok-after.ensures.is in
    nested_unclosed vs g (gathered c.item.new.into) (gathered c.items.new.into) c.args.nesting c.args.depth (toks (drop c.args.at ls)) (toks (drop c.in_ok-after.after ls)) (toks (drop c.in_ok-after-2.after ls)) (λ e. absurd (omega arith))
    (sym c.stands_at.ensures.is ∙ c.if-not-stands_at.false) h c.in_ok-after-2.ensures.is (sym c.stands_at-2.ensures.is ∙ c.if-not-stands_at-2.true)

pub item-returns-clause-is : goal.item-returns-clause-is
item-returns-clause-is t c =
    let ls = c.args.reader.now.tokens.now in
    let vs = texts c.args.reader.now.vars.now.keys in
    let g = gathered c.args.into.now in
    let h = subst (λ us. seen (of_item vs g) (item_at (c.args.nesting - 1) c.args.depth us) ≡ Some (gathered c.item.new.into, toks (drop c.in_ok-after.after ls))) (sym (behind_toks c.args.at ls)) c.in_ok-after.ensures.is in
    nested_read vs g (gathered c.item.new.into) (gathered c.items.new.into) c.args.nesting c.args.depth (toks (drop c.args.at ls)) (toks (drop c.in_ok-after.after ls)) (toks (drop c.in_ok-after-2.after ls)) (λ e. absurd (omega arith))
    (sym c.stands_at.ensures.is ∙ c.if-not-stands_at.false) h c.in_ok-after-2.ensures.is (sym c.stands_at-2.ensures.is ∙ c.if-not-stands_at-2.false)
    ∙ ap (λ us. Some (gathered c.items.new.into, us)) (behind_toks c.in_ok-after-2.after ls)

pub items-returns-in_err-next-clause-is : goal.items-returns-in_err-next-clause-is
items-returns-in_err-next-clause-is t c =
    let ls = c.args.reader.now.tokens.now in
    let next = c.loop-into.next in
    let vs = texts c.args.reader.now.vars.now.keys in
    let x = c.in_err-next.field-0.0 in
    let p = err_from_is_err_and c.from_residual.result c.from_residual.ensures.1 in
    let h = subst (λ us. Fails x (seen (of_item vs (gathered c.loop-into.into)) (item_at c.args.nesting c.args.depth us))) (sym (behind_toks next ls)) c.in_err-next.ensures.is in
    gives_err _ c.from_residual.result x _ (p.1 ∙ ap Err p.2)
    (items_end x vs c.args.nesting c.args.depth (toks (drop next ls)) (gathered c.loop-into.into) _ (sym c.stands_at.ensures.is ∙ c.loop-into-test.true) h c.loop-into.invariant.total)

pub items-loop-into-preserved : goal.items-loop-into-preserved
items-loop-into-preserved t c =
    let ls = c.args.reader.now.tokens.now in
    let next = c.loop-into.next in
    let vs = texts c.args.reader.now.vars.now.keys in
    let h = subst (λ us. seen (of_item vs (gathered c.loop-into.into)) (item_at c.args.nesting c.args.depth us) ≡ Some (gathered c.item.new.into, toks (drop c.in_ok-next.next ls))) (sym (behind_toks next ls)) c.in_ok-next.ensures.is in
    record {
      in_range = (omega (arith, c.in_ok-next.ensures.within, c.loop-into.invariant.in_range.0), λ le. c.in_ok-next.ensures.within.1);
      total = items_go_on vs c.args.nesting c.args.depth (toks (drop next ls)) (toks (drop c.in_ok-next.next ls)) (gathered c.loop-into.into) (gathered c.item.new.into) _ (sym c.stands_at.ensures.is ∙ c.loop-into-test.true) h c.loop-into.invariant.total;
    }

pub items-returns-clause-is : goal.items-returns-clause-is
items-returns-clause-is t c =
    items_done (texts c.args.reader.now.vars.now.keys) c.args.nesting c.args.depth (toks (drop c.loop-into.next c.args.reader.now.tokens.now)) (gathered c.loop-into.into) _ (sym c.stands_at.ensures.is ∙ c.loop-into-test.false) c.loop-into.invariant.total
