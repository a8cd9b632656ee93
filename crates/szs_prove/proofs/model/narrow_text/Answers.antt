use Rattle.std.proofs.Common.{List, IsTrue, sym, subst, ◌<◌, ◌^◌, arith}
use Rattle.inst_logic.specs.Clauses.{TreeClause}
use Rattle.inst_logic.specs.Measure.{is_function_free}
use Rattle.finite_model.proofs.FlatForm.{flattened_function_free}
use Rattle.inst_logic.specs.declared.clause.Problem.{Problem}
use Rattle.szs_prove.specs.Decisions.{IsDecision}
use Rattle.cert_format.specs.Printable.{IsPrintableProblem}
use Rattle.szs_prove.proofs.ModelTexts.{flattened_printable, is_flattened}
use Rattle.szs_prove.proofs.model.narrow_text.Goals as goal

pub decide-requires-clause-problem : goal.decide-requires-clause-problem
decide-requires-clause-problem c =
    let small : c.args.k < 2 ^ 64 = omega (arith, c.requires.few) in
    subst IsPrintableProblem (sym (is_flattened c.args.k c.args.p.now c.in_ok-flat.flat c.in_ok-flat.ensures.clauses c.in_ok-flat.ensures.names))
    (flattened_printable c.args.k c.args.p.now c.requires.good c.requires.some small c.requires.narrow)

pub text_of-requires-clause-decision : goal.text_of-requires-clause-decision
text_of-requires-clause-decision c =
    subst (λ (q : Problem). IsDecision q 0 c.in_ok-decision.decision) (is_flattened c.args.k c.args.p.now c.in_ok-flat.flat c.in_ok-flat.ensures.clauses c.in_ok-flat.ensures.names) c.in_ok-decision.ensures.decision

pub text_of-requires-clause-verdict : goal.text_of-requires-clause-verdict
text_of-requires-clause-verdict c =
    c.in_ok-decision.ensures.function_free (subst (λ (cs : List TreeClause). IsTrue (is_function_free cs)) (sym c.in_ok-flat.ensures.clauses) (flattened_function_free c.args.k c.args.p.now.clauses c.requires.good.formed))
