use Rattle.std.proofs.Common.{◌∙◌}
use Rattle.szs_prove.proofs.Settled.{refuted_clauses, satisfied_clauses}
use Rattle.szs_prove.proofs.certificates.marks_of.Goals as goal

pub returns-in_ok-marks-in-Unsatisfiable : goal.returns-in_ok-marks-in-Unsatisfiable
returns-in_ok-marks-in-Unsatisfiable c =
    (refuted_clauses c.args.p.now c.args.decision.now c.requires.decision _ c.in-Unsatisfiable.is, c.in_ok-marks-in-Unsatisfiable.ensures ∙ c.len.ensures)

pub returns-in-Satisfiable : goal.returns-in-Satisfiable
returns-in-Satisfiable c = satisfied_clauses c.args.p.now c.args.decision.now c.requires.decision _ c.in-Satisfiable.is
