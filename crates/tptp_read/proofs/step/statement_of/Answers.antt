use Rattle.std.proofs.Common.{◌≡◌, Err, drop, length, sym, ap, subst, ◌∙◌}
use Rattle.tptp_read.specs.ParseForm.{cnf_at, include_at}
use Rattle.std.proofs.lemmas.List.{length-map}
use Rattle.tptp_read.specs.LexemeView.{tok, toks}
use Rattle.tptp_read.specs.Verdicts.{judged_form, refusal_of, Tells, IsOf}
use Rattle.tptp_read.proofs.Places.{behind_toks}
use Rattle.tptp_read.proofs.Verdicts.{cnf_told, include_told, none_told, include_done, include_failed}
use Rattle.tptp_read.proofs.step.statement_of.Goals as goal

pub returns-then-begins_with : goal.returns-then-begins_with
returns-then-begins_with c =
    let ls = c.args.tokens.now in
    let told = cnf_told (toks ls) (sym c.begins_with.ensures ∙ c.if-begins_with.true) ∙ ap (λ us. judged_form (cnf_at (length (toks ls)) us)) (behind_toks 0 ls) ∙ ap (λ n. judged_form (cnf_at n (toks (drop 1 ls)))) (length-map ls tok) in
    subst (λ v. Tells c.cnf.result v) (sym told) c.cnf.ensures

pub returns-then-not-begins_with : goal.returns-then-not-begins_with
returns-then-not-begins_with c = none_told (toks c.args.tokens.now) (sym c.begins_with.ensures ∙ c.if-begins_with.false) (sym c.begins_with-2.ensures ∙ c.if-not-begins_with.true)

pub returns-in-Ok : goal.returns-in-Ok
returns-in-Ok c =
    let ls = c.args.tokens.now in
    let told = include_told (toks ls) (sym c.begins_with.ensures ∙ c.if-begins_with.false) (sym c.begins_with-2.ensures ∙ c.if-not-begins_with.false) ∙ ap (λ us. judged_form (include_at us)) (behind_toks 0 ls) in
    told ∙ include_done (include_at (toks (drop 1 ls))) c.in-Ok.statement c.in-Ok.ensures

pub returns-in-Err : goal.returns-in-Err
returns-in-Err c =
    let ls = c.args.tokens.now in
    let told = include_told (toks ls) (sym c.begins_with.ensures ∙ c.if-begins_with.false) (sym c.begins_with-2.ensures ∙ c.if-not-begins_with.false) ∙ ap (λ us. judged_form (include_at us)) (behind_toks 0 ls) in
    rw c.from.ensures (subst (λ v. IsOf (λ d. v ≡ Err d) (refusal_of c.in-Err.why)) (sym told) (include_failed (include_at (toks (drop 1 ls))) c.in-Err.why c.in-Err.ensures))
