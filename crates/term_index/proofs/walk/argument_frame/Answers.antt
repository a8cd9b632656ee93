use Rattle.std.proofs.Common.{arith}
use Rattle.term_index.proofs.FrameLaws.{settled_same}
use Rattle.term_index.proofs.walk.argument_frame.Goals as goal

pub returns-clause-same : goal.returns-clause-same
returns-clause-same c = λ g h. settled_same g c.args.cells.now c.args.frame h (omega arith) (omega arith) c.requires.rest
