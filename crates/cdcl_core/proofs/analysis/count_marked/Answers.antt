use Rattle.std.proofs.Common.{sym, ap, ◌∙◌}
use Rattle.std.specs.Prelude.{unwrap_or}
use Rattle.cdcl_core.proofs.AnalysisLaws.{counted_present, counted_other}
use Rattle.cdcl_core.proofs.analysis.count_marked.Goals as goal

pub returns-then-level : goal.returns-then-level
returns-then-level c i marks k = counted_present c.args.trail.now.trail i c.args.atom marks c.args.present.now c.saturating_add.result c.requires.trail c.requires.room c.saturating_add.ensures k

pub returns-else-level : goal.returns-else-level
returns-else-level c i marks k =
    counted_other c.args.trail.now.trail i c.args.atom marks c.args.present.now c.requires.trail
    (λ q. c.if-level.false (c.unwrap_or-level.ensures ∙ ap (λ o. unwrap_or o 0) c.level_of.ensures ∙ q ∙ sym c.level.ensures)) k
