use Rattle.std.proofs.Common.{arith, ◌∙◌, sym}
use Rattle.instgen_run.proofs.Firsts.{alone}
use Rattle.instgen_run.proofs.entries.is_ground_unit.Goals as goal

pub returns-then-len-eq1 : goal.returns-then-len-eq1
returns-then-len-eq1 c = (
  λ t. (alone c.args.clause.now c.args.l (omega (arith, c.len.ensures)) c.requires.first, sym c.ground.ensures.test ∙ t),
  λ u. c.ground.ensures.test ∙ u.1,
)
