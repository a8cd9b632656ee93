use Rattle.std.proofs.Common.{◌≡◌, ◌++◌, reverse, drop}
use Rattle.cert_inference.specs.Comparisons.{pairs_of}
use Rattle.cert_inference.proofs.comparison.push_pairs.Given as goal

abbrev pub invariant-loop-i : goal.invariant-loop-i
invariant-loop-i l = reverse l.pairs.items ≡ pairs_of l.fn.side (drop l.i l.nodes) (drop l.i l.terms) ++ reverse l.initial.pairs.items
