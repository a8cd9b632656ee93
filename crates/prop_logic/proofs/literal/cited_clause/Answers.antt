use Rattle.std.proofs.Common.{arith, inl, inr, sym, ap, ◌∙◌}
use Rattle.std.proofs.lemmas.Option.{same_Some}
use Rattle.prop_logic.proofs.AnalysisLaws.{cited_step, cited_no_step, cited_no_added}
use Rattle.prop_logic.proofs.literal.cited_clause.Goals.{in-Added+else-n-gt0, else-n-gt0-via-then-n-gt0+else-n-clauses, else-n-gt0-via-else-n-gt0, in-Step+else-n-gt0-2, else-n-gt0-2-via-then-n-gt0-2+else-n-steps, else-n-gt0-2-via-else-n-gt0-2}
use Rattle.prop_logic.proofs.literal.cited_clause.Goals as goal

pub returns-then-n-steps : goal.returns-then-n-steps
returns-then-n-steps c = λ d e.
    let steps = c.args.steps.now in
    let s = c.index-steps-n.result in
    let named = cited_step c.args.clauses.now steps c.args.hint c.in-Step.n s c.in-Step.is c.if-n-gt0-2.true c.if-n-steps.true c.index-steps-n.is in
    c.as_slice-then-n-steps.ensures ∙ ap (λ x. x.clause) (sym c.index-steps-n.is) ∙ same_Some s.clause d (sym named ∙ e)

pub returns : goal.returns
returns c = λ d e.
    let added = c.args.clauses.now in
    let steps = c.args.steps.now in
    absurd (elim c.match-hint.branch [
      | in-Added+else-n-gt0 w ↦ elim w.else-n-gt0.branch [
        | else-n-gt0-via-then-n-gt0+else-n-clauses v ↦ cited_no_added added steps c.args.hint w.in-Added.n d w.in-Added.is (inr (omega (arith, v.if-n-clauses.false))) e
        | else-n-gt0-via-else-n-gt0 v ↦ cited_no_added added steps c.args.hint w.in-Added.n d w.in-Added.is (inl v.if-n-gt0.false) e
      ]
      | in-Step+else-n-gt0-2 w ↦ elim w.else-n-gt0-2.branch [
        | else-n-gt0-2-via-then-n-gt0-2+else-n-steps v ↦ cited_no_step added steps c.args.hint w.in-Step.n d w.in-Step.is (inr (omega (arith, v.if-n-steps.false))) e
        | else-n-gt0-2-via-else-n-gt0-2 v ↦ cited_no_step added steps c.args.hint w.in-Step.n d w.in-Step.is (inl v.if-n-gt0-2.false) e
      ]
    ])
