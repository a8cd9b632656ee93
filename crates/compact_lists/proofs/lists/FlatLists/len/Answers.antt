use Rattle.std.proofs.Common.{arith}
use Rattle.compact_lists.proofs.PieceLaws.{length_cuts}
use Rattle.compact_lists.proofs.lists.FlatLists.len.Goals as goal

pub returns : goal.returns
returns g c = grind (arith, length_cuts)
