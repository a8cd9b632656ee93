use Rattle.std.proofs.Common.{◌≡◌, ◌<◌, ◌-◌, length}
use Rattle.cert_index.specs.Buckets.{number_at}
use Rattle.cert_index.specs.Links.{AreAdded}
use Rattle.cert_index.proofs.links.Links.add_items.Given as goal

abbrev pub invariant-loop-j : goal.invariant-loop-j
invariant-loop-j l = record {
  at : l.j < length l.self.numbers.items → number_at l.self.numbers.items l.j ≡ l.number;
  added : AreAdded l.self.numbers.items l.number l.from l.j l.initial.items.items l.items.items;
}

abbrev pub decreases-loop-j : goal.decreases-loop-j
decreases-loop-j l = length l.self.next.items - l.j
