use Rattle.std.proofs.Common.{◌≡◌, ◌++◌, ◌+◌, ◌≤◌, length, take}
use Rattle.std.specs.Prelude.{vec_len, vec_capacity}
use Rattle.compact_lists.proofs.clauses.push_packed.Given as goal

abbrev pub invariant-loop-lit : goal.invariant-loop-lit
invariant-loop-lit l = record {
  items : l.items.items ≡ l.initial.items.items ++ take l.lit-index l.clause;
  len : vec_len l.items ≡ vec_len l.initial.items + l.lit-index;
  room : vec_len l.initial.items + length l.clause ≤ vec_capacity l.items;
}
