use Rattle.std.proofs.Common.{◌≡◌, inl, inr, arith, ◌∙◌, ap, sym, length, Some}
use Rattle.std.proofs.lemmas.List.{length-map}
use Rattle.term_bank.specs.Forest.{tree_at, arguments_of}
use Rattle.term_index.specs.Labels.{label_of}
use Rattle.term_index.specs.Paths.{IsShort}
use Rattle.term_index.proofs.StoreLaws.{on_err}
use Rattle.term_index.proofs.LabelLaws.{label_is, known_of, known_variable, too_long}
use Rattle.term_index.proofs.label.label_at.Goals as goal

pub returns-in_ok-arity-in-Some-clause-label : goal.returns-in_ok-arity-in-Some-clause-label
returns-in_ok-arity-in-Some-clause-label c =
    let f = c.args.bank.now in
    let t = tree_at f c.args.id in
    label_is f t c.in_ok-symbol-in-Some.symbol c.in_ok-arity-in-Some.arity (ap Some c.in_ok-symbol-in-Some.ensures.same ∙ c.in-Some.ensures.number)
    (c.in_ok-arity-in-Some.ensures.same ∙ sym (length-map c.args-in-Some.result.now (tree_at f)) ∙ ap length c.args-in-Some.ensures.trees)

pub returns-in_ok-arity-in-Some-clause-known : goal.returns-in_ok-arity-in-Some-clause-known
returns-in_ok-arity-in-Some-clause-known c = known_of c.args.bank.now (tree_at c.args.bank.now c.args.id) c.in-Some.number c.in-Some.ensures.number c.in-Some.ensures.within c.in-Some.ensures.symbol

pub returns-in-None-clause-known : goal.returns-in-None-clause-known
returns-in-None-clause-known c = known_variable c.args.bank.now (tree_at c.args.bank.now c.args.id) c.in-None.ensures.number

pub returns-in_ok-arity-in-Some-clause-short : goal.returns-in_ok-arity-in-Some-clause-short
returns-in_ok-arity-in-Some-clause-short c = (c.in_ok-symbol-in-Some.ensures.small, c.in_ok-arity-in-Some.ensures.small)

pub returns-in_err-symbol-in-Some-clause-long : goal.returns-in_err-symbol-in-Some-clause-long
returns-in_err-symbol-in-Some-clause-long c =
    on_err (¬ (IsShort (label_of c.args.bank.now (tree_at c.args.bank.now c.args.id)))) c.from_residual.result
    (too_long c.args.bank.now (tree_at c.args.bank.now c.args.id) c.in-Some.number c.in-Some.ensures.number (inl c.in_err-symbol-in-Some.ensures.large))

pub returns-in_err-arity-in-Some-clause-long : goal.returns-in_err-arity-in-Some-clause-long
returns-in_err-arity-in-Some-clause-long c =
    let f = c.args.bank.now in
    let t = tree_at f c.args.id in
    let same : length c.args-in-Some.result.now ≡ length (arguments_of t) = sym (length-map c.args-in-Some.result.now (tree_at f)) ∙ ap length c.args-in-Some.ensures.trees in
    on_err (¬ (IsShort (label_of f t))) c.from_residual-in_err-arity-in-Some.result
    (too_long f t c.in-Some.number c.in-Some.ensures.number (inr (omega (arith, same, c.in_err-arity-in-Some.ensures.large))))
