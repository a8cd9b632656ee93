use Rattle.std.proofs.Common.{◌≡◌, ◌≤◌, length}
use Rattle.cert_index.specs.Links.{AreLinked}
use Rattle.cert_index.proofs.links.find_links.Given as goal

abbrev pub invariant-loop-i : goal.invariant-loop-i
invariant-loop-i l = record {
  within : l.i ≤ length l.numbers.items;
  count : length l.first.items ≡ l.count;
  linked : AreLinked l.numbers.items l.first.items l.next.items l.i;
}

abbrev pub decreases-loop-i : goal.decreases-loop-i
decreases-loop-i l = l.i
