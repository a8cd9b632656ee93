use Rattle.std.proofs.Common.{◌≤◌, ◌↔◌}
use Rattle.term_index.specs.Pairs.{Posting}
use Rattle.term_index.specs.Tries.{IsWalkOver, StillComes, most_left}
use Rattle.term_index.proofs.walk.next_entry.Given as goal

abbrev pub invariant-loop-entry : goal.invariant-loop-entry
invariant-loop-entry l = record {
  walking : IsWalkOver l.fn.view l.query l.trie l.walk;
  comes : (p : Posting) → StillComes l.fn.view l.query l.trie l.walk p ↔ StillComes l.fn.view l.query l.trie l.fn.walk p;
  most : most_left l.trie l.walk ≤ most_left l.trie l.fn.walk;
}

abbrev pub decreases-loop-entry : goal.decreases-loop-entry
decreases-loop-entry l = most_left l.trie l.walk
