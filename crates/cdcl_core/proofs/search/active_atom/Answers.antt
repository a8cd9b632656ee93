use Rattle.std.proofs.Common.{refl, arith}
use Rattle.cdcl_core.proofs.StepLaws.{unset_of}
use Rattle.cdcl_core.proofs.search.active_atom.Goals as goal

pub returns-then-is_whole-clause-none : goal.returns-then-is_whole-clause-none
returns-then-is_whole-clause-none c = λ k h e. c.if-is_whole.ensures.0 refl k (omega (arith, h, c.requires)) (unset_of c.args.trail.now.trail.entries k e)
