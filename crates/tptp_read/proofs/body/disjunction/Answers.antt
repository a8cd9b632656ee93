use Rattle.std.proofs.Common.{◌≡◌, ◌∙◌, Some, Err, drop, length, ap, sym, subst}
use Rattle.std.proofs.lemmas.Result.{err_from_is_err_and}
use Rattle.tptp_read.specs.LexemeView.{toks, texts, Fails}
use Rattle.tptp_read.specs.Gathered.{Gathered, gathered}
use Rattle.tptp_read.proofs.GatherLaws.{gives_err}
use Rattle.tptp_read.specs.ParseClause.{item_at}
use Rattle.tptp_read.specs.Shapes.{seen}
use Rattle.tptp_read.proofs.DisjunctionLaws.{of_item}
use Rattle.tptp_read.proofs.BodyLaws.{started, parts_first_fails, parts_others_fail, parts_read}
use Rattle.tptp_read.proofs.body.disjunction.Goals as goal

pub returns-in_err-after-clause-is : goal.returns-in_err-after-clause-is
returns-in_err-after-clause-is c =
    let x = c.in_err-after.field-0.0 in
    let p = err_from_is_err_and c.from_residual.result c.from_residual.ensures.1 in
    gives_err _ c.from_residual.result x _ (p.1 ∙ ap Err p.2)
    (parts_first_fails x (texts c.args.reader.now.vars.now.keys) (length c.args.reader.now.tokens.now) (toks (drop c.args.at c.args.reader.now.tokens.now)) (subst (λ (g : Gathered). Fails x (seen (of_item (texts c.args.reader.now.vars.now.keys) g) (item_at (length c.args.reader.now.tokens.now) (length c.args.reader.now.tokens.now) (toks (drop c.args.at c.args.reader.now.tokens.now))))) (ap started c.new.ensures) c.in_err-after.ensures.is))

pub returns-in_err-after-2-clause-is : goal.returns-in_err-after-2-clause-is
returns-in_err-after-2-clause-is c =
    let x = c.in_err-after-2.field-0.0 in
    let p = err_from_is_err_and c.from_residual-in_err-after-2.result c.from_residual-in_err-after-2.ensures.1 in
    gives_err _ c.from_residual-in_err-after-2.result x _ (p.1 ∙ ap Err p.2)
    (parts_others_fail x (texts c.args.reader.now.vars.now.keys) (gathered c.item.new.into) (length c.args.reader.now.tokens.now) (toks (drop c.args.at c.args.reader.now.tokens.now)) (toks (drop c.in_ok-after.after c.args.reader.now.tokens.now)) (subst (λ (g : Gathered). seen (of_item (texts c.args.reader.now.vars.now.keys) g) (item_at (length c.args.reader.now.tokens.now) (length c.args.reader.now.tokens.now) (toks (drop c.args.at c.args.reader.now.tokens.now))) ≡ Some (gathered c.item.new.into, toks (drop c.in_ok-after.after c.args.reader.now.tokens.now))) (ap started c.new.ensures) c.in_ok-after.ensures.is) c.in_err-after-2.ensures.is)

pub returns-clause-is : goal.returns-clause-is
returns-clause-is c =
    parts_read (texts c.args.reader.now.vars.now.keys) (gathered c.item.new.into) (gathered c.items.new.into) (length c.args.reader.now.tokens.now) (toks (drop c.args.at c.args.reader.now.tokens.now)) (toks (drop c.in_ok-after.after c.args.reader.now.tokens.now)) (toks (drop c.in_ok-after-2.after c.args.reader.now.tokens.now))
    (subst (λ (g : Gathered). seen (of_item (texts c.args.reader.now.vars.now.keys) g) (item_at (length c.args.reader.now.tokens.now) (length c.args.reader.now.tokens.now) (toks (drop c.args.at c.args.reader.now.tokens.now))) ≡ Some (gathered c.item.new.into, toks (drop c.in_ok-after.after c.args.reader.now.tokens.now))) (ap started c.new.ensures) c.in_ok-after.ensures.is) c.in_ok-after-2.ensures.is
    ∙ ap (λ clause. Some (gathered (record { clause = clause; always = c.items.new.into.always; feature = c.items.new.into.feature }), toks (drop c.in_ok-after-2.after c.args.reader.now.tokens.now))) (sym c.shrink_clause.ensures)
