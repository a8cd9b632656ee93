use Rattle.std.proofs.Common.{◌≡◌, ◌++◌, drop, map}
use Rattle.std.specs.Prelude.{reverse}
use Rattle.cert_items.proofs.order.push_atoms.Given as goal

abbrev pub invariant-loop-i : goal.invariant-loop-i
invariant-loop-i l = reverse l.left.items ≡ map (λ x. x.atom) (drop l.i l.literals) ++ reverse l.initial.left.items
