use Rattle.std.proofs.Common.{◌++◌, List, drop, map}
use Rattle.clause_form.specs.Walks.{numbers_of}
use Rattle.cert_inference.specs.Comparisons.{IsStepUnder, pairs_of}
use Rattle.cert_inference.specs.declared.comparison.NodePair.{NodePair}
use Rattle.cert_inference.proofs.comparison.compare_atoms.Given as goal

abbrev pub invariant-loop-i : goal.invariant-loop-i
invariant-loop-i l = (rest : List NodePair) → IsStepUnder l.bank l.of.bindings.now.entries (pairs_of l.of.side (map (λ l. l.atom) l.literals) (map (λ l. l.atom) l.others) ++ rest)
    (pairs_of l.of.side (drop l.i (map (λ l. l.atom) l.literals)) (drop l.i (map (λ l. l.atom) l.others)) ++ rest) (numbers_of l.initial.room.order.items) (numbers_of l.room.order.items)
