use Rattle.std.proofs.Common.{◌≡◌, ℕ, List, IfOk, subst}
use Rattle.cert_format.specs.Text.{written_text}
use Rattle.cert_front.specs.Kinds.{covered_value, refutation_value}
use Rattle.szs_prove.proofs.Settled.{refuted_texts, satisfied_texts}
use Rattle.szs_prove.proofs.certificates.text_of.Goals as goal

pub returns-in-Unsatisfiable : goal.returns-in-Unsatisfiable
returns-in-Unsatisfiable c =
    refuted_texts c.args._p.now c.args.decision.now c.requires.decision c.args.file.now _ c.in-Unsatisfiable.is c.refutation_text.result
    (subst (λ (n : List ℕ). IfOk c.refutation_text.result (λ text. text ≡ written_text n (refutation_value c.in-Unsatisfiable.cert))) c.as_bytes.ensures.value c.refutation_text.ensures.text)

pub returns-in-Satisfiable : goal.returns-in-Satisfiable
returns-in-Satisfiable c =
    satisfied_texts c.args._p.now c.args.decision.now c.requires.decision c.args.file.now _ c.in-Satisfiable.is c.covered_text.result
    (subst (λ (n : List ℕ). IfOk c.covered_text.result (λ text. text ≡ written_text n (covered_value c.in-Satisfiable.cert))) c.as_bytes-in-Satisfiable.ensures.value c.covered_text.ensures.text)
