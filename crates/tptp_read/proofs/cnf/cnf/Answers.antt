use Rattle.std.proofs.Common.{◌≡◌, ◌<◌, drop, length, get_or, true, sym, ap, ◌∙◌, arith, List}
use Rattle.std.specs.Prelude.{◌&&◌}
use Rattle.tptp_read.specs.declared.lexeme.Lexeme.{Lexeme}
use Rattle.tptp_read.specs.LexemeView.{tok, toks}
use Rattle.tptp_read.specs.Selected.{starts}
use Rattle.tptp_read.specs.Grammar.{is_name}
use Rattle.tptp_read.specs.Parse.{begins_with}
use Rattle.tptp_read.specs.ParseForm.{is_lower, cnf_at}
use Rattle.tptp_read.specs.Bodies.{body, judged_body}
use Rattle.tptp_read.specs.Verdicts.{judged_form}
use Rattle.tptp_read.proofs.ParseLaws.{both_true}
use Rattle.tptp_read.proofs.Places.{behind_toks, toks_at, other}
use Rattle.tptp_read.proofs.Clauses.{IsHead, no_head, no_body, no_note, no_tail, cnf_done, tells_as}
use Rattle.tptp_read.proofs.cnf.cnf.Goals as goal

head_is : (ls : List Lexeme) → 5 < length ls → (begins_with 40 (toks (drop 1 ls)) && (starts is_name (toks (drop 2 ls)) && (begins_with 44 (toks (drop 3 ls)) && (starts is_lower (toks (drop 4 ls)) && begins_with 44 (toks (drop 5 ls)))))) ≡ true
    → IsHead (toks (drop 1 ls)) (tok (get_or ls 2 other)) (tok (get_or ls 4 other)) (toks (drop 6 ls))
head_is ls lt e =
    let a = both_true (begins_with 40 (toks (drop 1 ls))) (starts is_name (toks (drop 2 ls)) && (begins_with 44 (toks (drop 3 ls)) && (starts is_lower (toks (drop 4 ls)) && begins_with 44 (toks (drop 5 ls))))) e in
    let b = both_true (starts is_name (toks (drop 2 ls))) (begins_with 44 (toks (drop 3 ls)) && (starts is_lower (toks (drop 4 ls)) && begins_with 44 (toks (drop 5 ls)))) a.1 in
    let d = both_true (begins_with 44 (toks (drop 3 ls))) (starts is_lower (toks (drop 4 ls)) && begins_with 44 (toks (drop 5 ls))) b.1 in
    let f = both_true (starts is_lower (toks (drop 4 ls))) (begins_with 44 (toks (drop 5 ls))) d.1 in
    let at2 = toks_at ls 2 other (omega (arith, lt)) in
    let at4 = toks_at ls 4 other (omega (arith, lt)) in
    record {
      us = toks (drop 3 ls);
      vs = toks (drop 5 ls);
      opened = a.0;
      name = behind_toks 1 ls ∙ at2;
      named = ap (starts is_name) (sym at2) ∙ b.0;
      comma = d.0;
      role = behind_toks 3 ls ∙ at4;
      lower = ap (starts is_lower) (sym at4) ∙ f.0;
      last = f.1;
      behind_it = behind_toks 5 ls;
    }

pub returns-then-not-has_head : goal.returns-then-not-has_head
returns-then-not-has_head c =
    let ls = c.args.tokens.now in
    ap judged_form (no_head (length ls) (toks (drop 1 ls)) (toks (drop 2 ls)) (toks (drop 3 ls)) (toks (drop 4 ls)) (toks (drop 5 ls)) (behind_toks 1 ls) (behind_toks 2 ls) (behind_toks 3 ls) (behind_toks 4 ls) (sym c.has_head.ensures.is ∙ c.if-not-has_head.true))

pub returns-in-Err : goal.returns-in-Err
returns-in-Err c =
    let ls = c.args.tokens.now in
    let head = head_is ls (c.has_head.ensures.within c.if-not-has_head.false) (sym c.has_head.ensures.is ∙ c.if-not-has_head.false) in
    rw c.from.ensures (no_body (length ls) (toks (drop 1 ls)) (tok (get_or ls 2 other)) (tok (get_or ls 4 other)) (toks (drop 6 ls)) c.in-Err.why head c.in-Err.ensures.is)

pub returns-in-None : goal.returns-in-None
returns-in-None c =
    let ls = c.args.tokens.now in
    let head = head_is ls (c.has_head.ensures.within c.if-not-has_head.false) (sym c.has_head.ensures.is ∙ c.if-not-has_head.false) in
    no_note (length ls) (toks (drop 1 ls)) (tok (get_or ls 2 other)) (tok (get_or ls 4 other)) (toks (drop 6 ls)) (toks (drop c.in-Ok.read.1 ls)) (body c.in-Ok.read.0) head c.in-Ok.ensures.is (sym c.in-None.ensures.is)

pub returns-then-not-ends_at : goal.returns-then-not-ends_at
returns-then-not-ends_at c =
    let ls = c.args.tokens.now in
    let head = head_is ls (c.has_head.ensures.within c.if-not-has_head.false) (sym c.has_head.ensures.is ∙ c.if-not-has_head.false) in
    no_tail (length ls) (toks (drop 1 ls)) (tok (get_or ls 2 other)) (tok (get_or ls 4 other)) (toks (drop 6 ls)) (toks (drop c.in-Ok.read.1 ls)) (toks (drop c.in-Some.end ls)) (body c.in-Ok.read.0) head c.in-Ok.ensures.is (sym c.in-Some.ensures.is) (sym c.ends_at.ensures ∙ c.if-not-ends_at.true)

pub returns : goal.returns
returns c =
    let ls = c.args.tokens.now in
    let head = head_is ls (c.has_head.ensures.within c.if-not-has_head.false) (sym c.has_head.ensures.is ∙ c.if-not-has_head.false) in
    let whole = cnf_done (length ls) (toks (drop 1 ls)) (tok (get_or ls 2 other)) (tok (get_or ls 4 other)) (toks (drop 6 ls)) (toks (drop c.in-Ok.read.1 ls)) (toks (drop c.in-Some.end ls)) (body c.in-Ok.read.0) head c.in-Ok.ensures.is (sym c.in-Some.ensures.is) (sym c.ends_at.ensures ∙ c.if-not-ends_at.false) in
    tells_as _ (judged_body (tok (get_or ls 2 other)) (tok (get_or ls 4 other)) (body c.in-Ok.read.0)) (judged_form (cnf_at (length ls) (toks (drop 1 ls)))) (sym whole) c.cnf_value.ensures
