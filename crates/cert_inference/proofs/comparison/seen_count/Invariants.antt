use Rattle.std.proofs.Common.{◌++◌, List, ℕ, drop}
use Rattle.cert_inference.specs.Comparisons.{IsStepUnder, pairs_of}
use Rattle.cert_inference.specs.declared.comparison.NodePair.{NodePair}
use Rattle.cert_inference.proofs.comparison.seen_count.Given as goal

abbrev pub invariant-loop-count : goal.invariant-loop-count
invariant-loop-count l = (rest : List NodePair) (os : List ℕ) → IsStepUnder l.bank l.bindings.entries (pairs_of l.side l.nodes l.terms ++ rest) (pairs_of l.side (drop l.count l.nodes) (drop l.count l.terms) ++ rest) os os
