use Rattle.std.proofs.Common.{◌≡◌, ◌+◌, ◌-◌, Some, drop, [], get_or, true, false, sym, ap, subst, ◌∙◌, arith}
use Rattle.std.specs.Prelude.{◌&&◌}
use Rattle.std.proofs.lemmas.Result.{err_from_is_err_and}
use Rattle.tptp_read.specs.declared.kind.TokenKind.TheVariants.{LowerWord}
use Rattle.inst_logic.specs.View.{tree}
use Rattle.inst_logic.specs.Tree.{app, of_list}
use Rattle.inst_logic.specs.declared.symbol.Kind.TheVariants.{Function}
use Rattle.tptp_read.specs.declared.lexeme.Lexeme.{Lexeme}
use Rattle.tptp_read.specs.Lexemes.{is_head}
use Rattle.tptp_read.specs.Parse.{begins_with, applied_at, term_at}
use Rattle.tptp_read.specs.LexemeView.{texts, tok, toks, in_trees, Gives, Fails}
use Rattle.tptp_read.proofs.ParseLaws.{and_false}
use Rattle.tptp_read.proofs.Reading.{behind_toks, toks_at, toks_end, term_none, term_deep, term_calls, term_single, term_nothing, arguments_go_on, arguments_end, arguments_done, applied_done}
use Rattle.tptp_read.proofs.terms.+term.Goals as goal
use Rattle.tptp_read.proofs.terms.+term.Goals.{term-else-is_head-via-then-is_head+else-stands_at, term-else-is_head-via-else-is_head}
use Rattle.inst_logic.proofs.Booleans.{left_false}

abbrev other : Lexeme
other = record { kind = LowerWord; text = record { ref_ptr = (0, 0); now = [] } }

pub term-returns-then-at-reader-clause-is : goal.term-returns-then-at-reader-clause-is
term-returns-then-at-reader-clause-is t c = ap (λ r. in_trees (texts c.args.reader.now.vars.now.keys) r) (term_none c.args.depth (toks (drop c.args.at c.args.reader.now.tokens.now)) (toks_end c.args.reader.now.tokens.now c.args.at c.if-at-reader.true))

pub arguments-returns-clause-is : goal.arguments-returns-clause-is
arguments-returns-clause-is t c = arguments_done (texts c.args.reader.now.vars.now.keys) c.args.depth (toks (drop c.loop-args.next c.args.reader.now.tokens.now)) c.loop-args.args _ (sym c.stands_at.ensures.is ∙ c.loop-args-test.false) c.loop-args.invariant.total
    ∙ ap (λ args. Some (args, toks (drop c.loop-args.next c.args.reader.now.tokens.now))) (sym c.shrink_list.ensures)

pub term-returns-then-depth-eq0-clause-is : goal.term-returns-then-depth-eq0-clause-is
term-returns-then-depth-eq0-clause-is t c =
    let ls = c.args.reader.now.tokens.now in
    let at = c.args.at in
    let e = toks_at ls at other (omega arith) in
    let none = term_deep c.args.depth (tok (get_or ls at other)) (toks (drop (at + 1) ls)) (omega arith) (sym c.is_head.ensures ∙ c.if-is_head.true) (sym c.stands_at.ensures.is ∙ c.if-stands_at.true) in
    ap (λ r. in_trees (texts c.args.reader.now.vars.now.keys) r) (ap (term_at c.args.depth) e ∙ none)

pub term-returns-else-depth-eq0-clause-is : goal.term-returns-else-depth-eq0-clause-is
term-returns-else-depth-eq0-clause-is t c =
    let ls = c.args.reader.now.tokens.now in
    let at = c.args.at in
    let e = toks_at ls at other (omega arith) in
    let calls = term_calls c.args.depth (tok (get_or ls at other)) (toks (drop (at + 1) ls)) (omega arith) (sym c.is_head.ensures ∙ c.if-is_head.true) (sym c.stands_at.ensures.is ∙ c.if-stands_at.true) in
    let two : at + 1 + 1 ≡ at + 2 = omega arith in
    let after = behind_toks (at + 1) ls ∙ ap (λ i. toks (drop i ls)) two in
    let whole = ap (term_at c.args.depth) e ∙ calls ∙ ap (λ us. applied_at (term_at (c.args.depth - 1)) (tok (get_or ls at other)) us) after in
    subst (λ r. Gives (λ x. (tree x.0, toks (drop x.1 c.args.reader.now.tokens.now))) c.application.result (in_trees (texts c.args.reader.now.vars.now.keys) r)) (sym whole) c.application.ensures.is

pub term-returns-in_ok-t-clause-is : goal.term-returns-in_ok-t-clause-is
term-returns-in_ok-t-clause-is t c =
    let ls = c.args.reader.now.tokens.now in
    let at = c.args.at in
    let e = toks_at ls at other (omega arith) in
    let no_call : (is_head (tok (get_or ls at other)).kind && begins_with 40 (toks (drop (at + 1) ls))) ≡ false = elim c.else-is_head.branch [
      | term-else-is_head-via-then-is_head+else-stands_at w ↦ and_false _ _ (sym w.stands_at.ensures.is ∙ w.if-stands_at.false)
      | term-else-is_head-via-else-is_head w ↦ left_false _ _ (sym c.is_head.ensures ∙ w.if-is_head.false)
    ] in
    let one = term_single c.args.depth (tok (get_or ls at other)) (toks (drop (at + 1) ls)) no_call (sym c.is_plain.ensures ∙ c.if-is_plain.true) in
    ap (λ r. in_trees (texts c.args.reader.now.vars.now.keys) r) (ap (term_at c.args.depth) e ∙ one) ∙ ap (λ u. Some (u, toks (drop (at + 1) ls))) (sym c.in_ok-t.ensures)

pub term-returns-else-is_plain-clause-is : goal.term-returns-else-is_plain-clause-is
term-returns-else-is_plain-clause-is t c =
    let ls = c.args.reader.now.tokens.now in
    let at = c.args.at in
    let e = toks_at ls at other (omega arith) in
    let no_call : (is_head (tok (get_or ls at other)).kind && begins_with 40 (toks (drop (at + 1) ls))) ≡ false = elim c.else-is_head.branch [
      | term-else-is_head-via-then-is_head+else-stands_at w ↦ and_false _ _ (sym w.stands_at.ensures.is ∙ w.if-stands_at.false)
      | term-else-is_head-via-else-is_head w ↦ left_false _ _ (sym c.is_head.ensures ∙ w.if-is_head.false)
    ] in
    let none = term_nothing c.args.depth (tok (get_or ls at other)) (toks (drop (at + 1) ls)) no_call (sym c.is_plain.ensures ∙ c.if-is_plain.false) in
    ap (λ r. in_trees (texts c.args.reader.now.vars.now.keys) r) (ap (term_at c.args.depth) e ∙ none)

pub application-returns-clause-is : goal.application-returns-clause-is
application-returns-clause-is t c =
    let e = behind_toks c.in_ok-args.after c.args.reader.now.tokens.now in
    let closed : begins_with 41 (toks (drop c.in_ok-args.after c.args.reader.now.tokens.now)) ≡ true = sym c.stands_at.ensures.is ∙ c.if-not-stands_at.false in
    let whole = applied_done (texts c.args.reader.now.vars.now.keys) c.args.depth (tok c.args.head.now) (toks (drop c.args.at c.args.reader.now.tokens.now)) (toks (drop c.in_ok-first.after c.args.reader.now.tokens.now)) (toks (drop c.in_ok-args.after c.args.reader.now.tokens.now)) (tree c.in_ok-first.first) c.in_ok-args.args c.len-arity.result c.in_ok-first.ensures.is c.in_ok-args.ensures.is closed c.len-arity.ensures in
    whole ∙ (λ i. Some (app (record { kind = Function; name = sym c.in_ok-name.ensures i; arity = c.len-arity.result }) (of_list c.in_ok-args.args), e i))

pub arguments-returns-in_err-t-clause-is : goal.arguments-returns-in_err-t-clause-is
arguments-returns-in_err-t-clause-is t c =
    let ls = c.args.reader.now.tokens.now in
    let next = c.loop-args.next in
    let p = err_from_is_err_and c.from_residual-in_err-t.result c.from_residual-in_err-t.ensures.1 in
    let h = subst (λ us. Fails c.in_err-t.field-0.0 (in_trees (texts c.args.reader.now.vars.now.keys) (term_at c.args.depth us))) (sym (behind_toks next ls)) c.in_err-t.ensures.is in
    rw (p.1, p.2) (arguments_end c.in_err-t.field-0.0 (texts c.args.reader.now.vars.now.keys) c.args.depth (toks (drop next ls)) c.loop-args.args _ (sym c.stands_at.ensures.is ∙ c.loop-args-test.true) h c.loop-args.invariant.total)

pub arguments-loop-args-preserved : goal.arguments-loop-args-preserved
arguments-loop-args-preserved t c =
    let ls = c.args.reader.now.tokens.now in
    let next = c.loop-args.next in
    let comma = sym c.stands_at.ensures.is ∙ c.loop-args-test.true in
    let pushed = c.in_ok-push-2.ensures.ok in
    let h = subst (λ us. in_trees (texts c.args.reader.now.vars.now.keys) (term_at c.args.depth us) ≡ Some (tree c.in_ok-t.t, toks (drop c.in_ok-t.after ls))) (sym (behind_toks next ls)) c.in_ok-t.ensures.is in
    let total = arguments_go_on (texts c.args.reader.now.vars.now.keys) c.args.depth (toks (drop next ls)) (toks (drop c.in_ok-t.after ls)) c.loop-args.args (tree c.in_ok-t.t) _ comma h c.loop-args.invariant.total in
    record {
      in_range = (omega (arith, c.in_ok-t.ensures.within, c.loop-args.invariant.in_range.0), λ le. c.in_ok-t.ensures.within.1);
      total = rw pushed total;
    }
