use Rattle.std.proofs.Common.{subst}
use Rattle.cert_front.specs.Kinds.{covered_value, refutation_value}
use Rattle.cert_values.specs.Values.{covered_of}
use Rattle.szs_prove.specs.Decisions.{IsDecision}
use Rattle.szs_prove.proofs.formula.answer_of.Goals as goal

pub returns-in_ok-text-in-Unsatisfiable : goal.returns-in_ok-text-in-Unsatisfiable
returns-in_ok-text-in-Unsatisfiable c =
    let q = c.args._q.now in
    let p = c.args._problem.now in
    let shown = subst (IsDecision p 0) c.in-Unsatisfiable.is c.requires.decision in (
      c.answers_from_certificates.ensures.refuted q.matrix.vars q.prefix q.matrix.clauses p _ _ c.requires.formula c.requires.translated shown.certifies.shows,
      record {
        problem = p;
        translated = c.requires.translated;
        named = c.requires.named;
        certificate = refutation_value c.in-Unsatisfiable.cert;
        shown = shown;
        name = c.requires.name;
        is = c.in_ok-text-in-Unsatisfiable.ensures;
      },
    )

pub returns-in_ok-text-in-Satisfiable : goal.returns-in_ok-text-in-Satisfiable
returns-in_ok-text-in-Satisfiable c =
    let q = c.args._q.now in
    let p = c.args._problem.now in
    let shown = subst (IsDecision p 0) c.in-Satisfiable.is c.requires.decision in (
      c.answers_from_certificates.ensures.satisfied q.prefix q.matrix.clauses p (covered_of c.in-Satisfiable.cert).saturation c.requires.formula.once c.requires.translated shown.certifies.shows,
      record {
        problem = p;
        translated = c.requires.translated;
        named = c.requires.named;
        certificate = covered_value c.in-Satisfiable.cert;
        shown = shown;
        name = c.requires.name;
        is = c.in_ok-text-in-Satisfiable.ensures;
      },
    )
