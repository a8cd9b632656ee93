use Rattle.std.proofs.Common.{subst}
use Rattle.std.proofs.lemmas.Result.{on_ok_weaker}
use Rattle.inst_logic.specs.Unifiers.{IsProper}
use Rattle.unify_core.specs.Sides.{of_side, of_pair}
use Rattle.instgen_run.proofs.Works.{placed_tree}
use Rattle.instgen_run.proofs.Opposites.{proper_paired}
use Rattle.instgen_run.proofs.work.infer_where_proper.Goals as goal

pub returns-then-proper-clause-worked : goal.returns-then-proper-clause-worked
returns-then-proper-clause-worked g c = on_ok_weaker c.infer.result (λ w a b s resolved general tree. w s resolved) c.infer.ensures.worked

pub returns-else-proper-clause-worked : goal.returns-else-proper-clause-worked
returns-else-proper-clause-worked g c = λ a b s resolved general tree m n l o p.
    absurd (c.proper.ensures.no c.if-proper.false a b s resolved general
    (subst (IsProper (of_side s c.args.at.side)) (placed_tree c.args.run.now c.args.at.from (of_pair c.args.at.side a b) m tree l) p))

pub returns-then-proper-clause-running : goal.returns-then-proper-clause-running
returns-then-proper-clause-running g c =
    on_ok_weaker c.infer.result (λ w p. w (p, proper_paired c.args.run.now c.args.at.side c.args.at.from c.args.at.partner p (c.proper.ensures.yes c.if-proper.true))) c.infer.ensures.running
