use Rattle.instgen_run.proofs.UnderWay.{true_somewhere}
use Rattle.instgen_run.proofs.selection.chosen_place.Goals as goal

pub unreachable-requires : goal.unreachable-requires
unreachable-requires c = let (p, t) = true_somewhere c.args.clause.now c.args.v.now c.requires.holds in c.in-None.ensures.chosen p t
