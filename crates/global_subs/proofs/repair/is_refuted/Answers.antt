use Rattle.global_subs.proofs.KeptLaws.{refuting}
use Rattle.global_subs.proofs.repair.is_refuted.Goals as goal

pub returns-in-None : goal.returns-in-None
returns-in-None c = λ e. refuting c.args._clauses.now c.args._notes.now c.args.values.now c.args.c.now c.requires.each c.in-None.ensures.none
