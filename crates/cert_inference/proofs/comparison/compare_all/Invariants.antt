use Rattle.std.proofs.Common.{reverse, ◌++◌, List}
use Rattle.clause_form.specs.Walks.{numbers_of}
use Rattle.cert_inference.specs.Comparisons.{IsStepUnder}
use Rattle.cert_inference.specs.declared.comparison.NodePair.{NodePair}
use Rattle.cert_inference.proofs.comparison.compare_all.Given as goal

abbrev pub invariant-loop : goal.invariant-loop
invariant-loop l = (rest : List NodePair) → IsStepUnder l.bank l.fn.bindings.entries (reverse l.initial.pairs.items ++ rest) (reverse l.pairs.items ++ rest) (numbers_of l.initial.order.items) (numbers_of l.order.items)
