use Rattle.std.proofs.Common.{◌∙◌, ◌≤◌, Err, drop, length, ap, sym, length-drop, arith}
use Rattle.std.proofs.lemmas.List.{length-map}
use Rattle.std.proofs.lemmas.Result.{err_from_is_err_and}
use Rattle.inst_logic.specs.LiteralView.{literal}
use Rattle.tptp_read.specs.LexemeView.{tok, toks, texts}
use Rattle.tptp_read.specs.Gathered.{gathered}
use Rattle.tptp_read.proofs.Reading.{toks_end}
use Rattle.tptp_read.proofs.AtomForms.{read_as, form_fails, form_more, form_none, form_negative, form_is}
use Rattle.inst_logic.proofs.Booleans.{not_true, not_false}
use Rattle.tptp_read.proofs.atom.form.Goals as goal

pub returns-in_err-after : goal.returns-in_err-after
returns-in_err-after c =
    let ls = c.args.tokens.now in
    let p = err_from_is_err_and c.from_residual.result c.from_residual.ensures.1 in
    form_fails c.in_err-after.field-0.0 (toks ls) (texts c.new-vars.result.keys) c.new.result c.from_residual.result (length ls) (sym (length-map ls tok)) (p.1 ∙ ap Err p.2) c.in_err-after.ensures.is

pub returns-then-after-tokens : goal.returns-then-after-tokens
returns-then-after-tokens c =
    let ls = c.args.tokens.now in
    let after = c.in_ok-after.after in
    let r = read_as (toks ls) (toks (drop after ls)) (texts c.new-vars.result.keys) c.new.result (gathered c.single.new.into) (length ls) (sym (length-map ls tok)) (ap texts c.new-vars.ensures.empty) c.new.ensures c.in_ok-after.ensures.is in
    form_more (toks ls) (toks (drop after ls)) c.single.new.into.clause r
    (λ nil. let all : length ls ≤ after = omega (arith, ap length nil, length-map (drop after ls) tok, length-drop after ls) in c.if-after-tokens.true (omega (arith, all, c.in_ok-after.ensures.within)))

pub returns-in-None : goal.returns-in-None
returns-in-None c =
    let ls = c.args.tokens.now in
    let after = c.in_ok-after.after in
    let r = read_as (toks ls) (toks (drop after ls)) (texts c.new-vars.result.keys) c.new.result (gathered c.single.new.into) (length ls) (sym (length-map ls tok)) (ap texts c.new-vars.ensures.empty) c.new.ensures c.in_ok-after.ensures.is in
    form_none (toks ls) (toks (drop after ls)) c.single.new.into.clause r c.in-None.ensures

pub returns-then-not-l : goal.returns-then-not-l
returns-then-not-l c =
    let ls = c.args.tokens.now in
    let after = c.in_ok-after.after in
    let r = read_as (toks ls) (toks (drop after ls)) (texts c.new-vars.result.keys) c.new.result (gathered c.single.new.into) (length ls) (sym (length-map ls tok)) (ap texts c.new-vars.ensures.empty) c.new.ensures c.in_ok-after.ensures.is in
    form_negative (toks ls) (toks (drop after ls)) c.single.new.into.clause (literal c.in-Some.l) r c.in-Some.ensures (not_true c.in-Some.l.positive c.if-not-l.true)

pub returns : goal.returns
returns c =
    let ls = c.args.tokens.now in
    let after = c.in_ok-after.after in
    let r = read_as (toks ls) (toks (drop after ls)) (texts c.new-vars.result.keys) c.new.result (gathered c.single.new.into) (length ls) (sym (length-map ls tok)) (ap texts c.new-vars.ensures.empty) c.new.ensures c.in_ok-after.ensures.is in
    form_is (toks ls) (toks (drop after ls)) c.single.new.into.clause (literal c.in-Some.l) (sym c.has_variable.ensures ∙ c.if-has_variable.false) r (toks_end ls after (omega arith)) c.in-Some.ensures (not_false c.in-Some.l.positive c.if-not-l.false)
