use Rattle.std.proofs.Common.{◌+◌, ◌∙◌, arith}
use Rattle.cdcl_core.proofs.AnalysisLaws.{counted_met, counted_fewer}
use Rattle.cdcl_core.proofs.analysis.count_met.Goals as goal

pub returns-then-level : goal.returns-then-level
returns-then-level c = λ i e marks at m same k. counted_met c.args.trail.now.trail i e marks c.args.present.now c.saturating_sub.result at m (same ∙ c.if-level.true ∙ c.level.ensures) c.saturating_sub.ensures k

pub returns-else-level : goal.returns-else-level
returns-else-level c = λ i e marks at m same k. counted_fewer c.args.trail.now.trail i (i + 1) marks c.args.present.now (omega arith) k
