use Rattle.std.proofs.Common.{◌≡◌, ◌<◌, ◌≤◌, ◌-◌, length, All, slice_index_or}
use Rattle.term_index.specs.Copies.{id_of, CopiesSome}
use Rattle.term_index.proofs.query.build_query.Given as goal

abbrev pub invariant-loop-next : goal.invariant-loop-next
invariant-loop-next l = record {
  place : l.next ≡ length l.nodes.items;
  so_far : l.next ≤ length l.ids;
  ids : All (λ i. i < length l.bank.trees) l.ids;
  some : 0 < length l.ids;
  root : id_of l.ids 0 ≡ l.fn.query;
  copies : CopiesSome l.bank l.ids (record { nodes = l.nodes.items; args = l.args.items });
  args : All (λ n. n < length l.ids) l.args.items;
  front : (0 < length l.args.items) × (slice_index_or l.args.items 0 0 ≡ 0);
}

abbrev pub decreases-loop-next : goal.decreases-loop-next
decreases-loop-next l = length l.bank.trees - l.next
