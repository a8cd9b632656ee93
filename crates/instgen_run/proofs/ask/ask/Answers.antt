use Rattle.std.proofs.Common.{rules}
use Rattle.instgen_run.proofs.Asked.{both_parts}
use Rattle.instgen_run.proofs.ask.ask.Goals as goal

pub returns-then-are_true_after-clause-none : goal.returns-then-are_true_after-clause-none
returns-then-are_true_after-clause-none g c = both_parts c.args.literals.now c.args.v.now c.args.count c.requires.first (c.are_true_after.ensures (search rules))
