use Rattle.std.proofs.Common.{◌≡◌, take}
use Rattle.cert_index.specs.Lengths.{heads_by}
use Rattle.cert_index.proofs.lengths.ordered_heads.Given as goal

abbrev pub invariant-loop-r : goal.invariant-loop-r
invariant-loop-r l = l.ordered.items ≡ heads_by l.heads (take l.r-index l.ranked)
