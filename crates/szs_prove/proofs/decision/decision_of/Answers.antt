use Rattle.std.proofs.Common.{subst, sym}
use Rattle.szs_prove.specs.Decisions.{IsDecision}
use Rattle.szs_prove.proofs.CheckedDecisions.{refuted_run, saturated_run, stopped_run}
use Rattle.szs_prove.proofs.decision.decision_of.Goals as goal

pub refutation_decision-requires-clause-outcome : goal.refutation_decision-requires-clause-outcome
refutation_decision-requires-clause-outcome c = refuted_run c.args.p.now c.args._budget c.in-Refuted.cert c.in-Refuted.journal c.args.outcome c.requires.outcome c.in-Refuted.is

pub saturation_decision-requires-clause-outcome : goal.saturation_decision-requires-clause-outcome
saturation_decision-requires-clause-outcome c = saturated_run c.args.p.now c.args._budget c.in-Saturated.cert c.in-Saturated.journal c.args.outcome c.requires.outcome c.in-Saturated.is

pub returns-in-Refuted : goal.returns-in-Refuted
returns-in-Refuted c = c.refutation_decision.ensures c.args._budget

pub returns-in-Saturated : goal.returns-in-Saturated
returns-in-Saturated c = c.saturation_decision.ensures c.args._budget

pub returns-in-OutOfBudget : goal.returns-in-OutOfBudget
returns-in-OutOfBudget c =
    subst (IsDecision c.args.p.now c.args._budget) (sym c.open_decision.ensures)
    (stopped_run c.args.p.now c.args._budget _ _ _ _ c.args.outcome c.requires.outcome c.in-OutOfBudget.is)
