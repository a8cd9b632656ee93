use Rattle.std.proofs.Common.{◌≡◌, ◌<◌, drop, length, get_or, true, false, sym, ap, ◌∙◌, List}
use Rattle.std.specs.Prelude.{◌&&◌}
use Rattle.std.specs.Option.{option_map}
use Rattle.std.proofs.lemmas.Result.{err_from_is_err_and}
use Rattle.tptp_read.specs.Stream.{Tok}
use Rattle.tptp_read.specs.declared.lexeme.Lexeme.{Lexeme}
use Rattle.tptp_read.specs.LexemeView.{tok, toks}
use Rattle.tptp_read.specs.Selected.{starts}
use Rattle.tptp_read.specs.Grammar.{is_name}
use Rattle.tptp_read.specs.Meaning.{judged}
use Rattle.tptp_read.specs.Parse.{begins_with, behind}
use Rattle.tptp_read.specs.ParseForm.{is_quoted, is_tail}
use Rattle.tptp_read.proofs.ParseLaws.{both_true}
use Rattle.tptp_read.proofs.Places.{behind_toks, toks_at, other}
use Rattle.tptp_read.proofs.Includes.{IsFile, AreNames, no_file, whole_is, no_names, selected_is, not_shut, names_bad}
use Rattle.tptp_read.proofs.include.include.Goals as goal

file_is : (ls : List Lexeme) → 2 < length ls → (begins_with 40 (toks (drop 1 ls)) && starts is_quoted (toks (drop 2 ls))) ≡ true → IsFile (toks (drop 1 ls)) (tok (get_or ls 2 other)) (toks (drop 3 ls))
file_is ls lt e =
    let b = both_true (begins_with 40 (toks (drop 1 ls))) (starts is_quoted (toks (drop 2 ls))) e in
    let at = toks_at ls 2 other lt in
    (b.0, behind_toks 1 ls ∙ at, ap (starts is_quoted) (sym at) ∙ b.1)

names_are : (ls : List Lexeme) → 5 < length ls → is_tail (toks (drop 3 ls)) ≡ false → (begins_with 44 (toks (drop 3 ls)) && (begins_with 91 (toks (drop 4 ls)) && starts is_name (toks (drop 5 ls)))) ≡ true
    → AreNames (toks (drop 3 ls)) (tok (get_or ls 5 other)) (toks (drop 6 ls))
names_are ls lt t e =
    let b = both_true (begins_with 44 (toks (drop 3 ls))) (begins_with 91 (toks (drop 4 ls)) && starts is_name (toks (drop 5 ls))) e in
    let d = both_true (begins_with 91 (toks (drop 4 ls))) (starts is_name (toks (drop 5 ls))) b.1 in
    let at = toks_at ls 5 other lt in
    (t, b.0, ap (begins_with 91) (behind_toks 3 ls) ∙ d.0, ap behind (behind_toks 3 ls) ∙ behind_toks 4 ls ∙ at, ap (starts is_name) (sym at) ∙ d.1)

pub returns-then-not-has_file : goal.returns-then-not-has_file
returns-then-not-has_file c = ap (option_map judged) (no_file (toks (drop 1 c.args.tokens.now)) (toks (drop 2 c.args.tokens.now)) (behind_toks 1 c.args.tokens.now) (sym c.has_file.ensures.is ∙ c.if-not-has_file.true))

pub returns-then-ends_at : goal.returns-then-ends_at
returns-then-ends_at c =
    let ls = c.args.tokens.now in
    let file = file_is ls (c.has_file.ensures.within c.if-not-has_file.false) (sym c.has_file.ensures.is ∙ c.if-not-has_file.false) in
    rw c.in_ok-file.ensures (ap (option_map judged) (whole_is (toks (drop 1 ls)) (tok (get_or ls 2 other)) (toks (drop 3 ls)) file (sym c.ends_at.ensures ∙ c.if-ends_at.true)))

pub returns-then-not-has_names : goal.returns-then-not-has_names
returns-then-not-has_names c =
    let ls = c.args.tokens.now in
    let file = file_is ls (c.has_file.ensures.within c.if-not-has_file.false) (sym c.has_file.ensures.is ∙ c.if-not-has_file.false) in
    let four = behind_toks 3 ls in
    let none = ap (λ (us : List Tok). begins_with 44 (toks (drop 3 ls)) && (begins_with 91 us && starts is_name (toks (drop 5 ls)))) four ∙ sym c.has_names.ensures.is ∙ c.if-not-has_names.true in
    ap (option_map judged) (no_names (toks (drop 1 ls)) (tok (get_or ls 2 other)) (toks (drop 3 ls)) (toks (drop 5 ls)) file (sym c.ends_at.ensures ∙ c.if-ends_at.false) (ap behind four ∙ behind_toks 4 ls) none)

pub returns-in_err-names : goal.returns-in_err-names
returns-in_err-names c =
    let ls = c.args.tokens.now in
    let file = file_is ls (c.has_file.ensures.within c.if-not-has_file.false) (sym c.has_file.ensures.is ∙ c.if-not-has_file.false) in
    let names = names_are ls (c.has_names.ensures.within c.if-not-has_names.false) (sym c.ends_at.ensures ∙ c.if-ends_at.false) (sym c.has_names.ensures.is ∙ c.if-not-has_names.false) in
    let p = err_from_is_err_and c.from_residual-in_err-names.result c.from_residual-in_err-names.ensures.1 in
    rw (p.1, p.2) (names_bad c.in_err-names.field-0.0 (toks (drop 1 ls)) (tok (get_or ls 2 other)) (toks (drop 3 ls)) (tok (get_or ls 5 other)) (toks (drop 6 ls)) file names c.in_err-names.ensures.is)

pub returns-then-not-closes_at : goal.returns-then-not-closes_at
returns-then-not-closes_at c =
    let ls = c.args.tokens.now in
    let file = file_is ls (c.has_file.ensures.within c.if-not-has_file.false) (sym c.has_file.ensures.is ∙ c.if-not-has_file.false) in
    let names = names_are ls (c.has_names.ensures.within c.if-not-has_names.false) (sym c.ends_at.ensures ∙ c.if-ends_at.false) (sym c.has_names.ensures.is ∙ c.if-not-has_names.false) in
    let shut = ap (λ (us : List Tok). begins_with 93 (toks (drop c.in_ok-names.after ls)) && is_tail us) (behind_toks c.in_ok-names.after ls) ∙ sym c.closes_at.ensures ∙ c.if-not-closes_at.true in
    ap (option_map judged) (not_shut (toks (drop 1 ls)) (tok (get_or ls 2 other)) (toks (drop 3 ls)) (tok (get_or ls 5 other)) (toks (drop 6 ls)) (toks (drop c.in_ok-names.after ls)) c.in_ok-names.names file names c.in_ok-names.ensures.is shut)

pub returns : goal.returns
returns c =
    let ls = c.args.tokens.now in
    let file = file_is ls (c.has_file.ensures.within c.if-not-has_file.false) (sym c.has_file.ensures.is ∙ c.if-not-has_file.false) in
    let names = names_are ls (c.has_names.ensures.within c.if-not-has_names.false) (sym c.ends_at.ensures ∙ c.if-ends_at.false) (sym c.has_names.ensures.is ∙ c.if-not-has_names.false) in
    let shut = ap (λ (us : List Tok). begins_with 93 (toks (drop c.in_ok-names.after ls)) && is_tail us) (behind_toks c.in_ok-names.after ls) ∙ sym c.closes_at.ensures ∙ c.if-not-closes_at.false in
    rw c.in_ok-file.ensures (selected_is (toks (drop 1 ls)) (tok (get_or ls 2 other)) (toks (drop 3 ls)) (tok (get_or ls 5 other)) (toks (drop 6 ls)) (toks (drop c.in_ok-names.after ls)) c.in_ok-names.names file names c.in_ok-names.ensures.is shut)
