use Rattle.std.proofs.Common.{◌≡◌, ◌++◌, ◌≤◌, length, take}
use Rattle.cdcl_trail.proofs.arena.push_packed.Given as goal

abbrev pub invariant-loop-lit : goal.invariant-loop-lit
invariant-loop-lit l = record {
  items : l.literals.items ≡ l.initial.literals.items ++ take l.lit-index l.clause;
  size : length l.initial.literals.items ≤ length l.literals.items;
}
