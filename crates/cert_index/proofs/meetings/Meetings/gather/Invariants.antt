use Rattle.std.proofs.Common.{take}
use Rattle.cert_index.specs.Chains.{AreGathered}
use Rattle.cert_index.proofs.meetings.Meetings.gather.Given as goal

abbrev pub invariant-loop-number : goal.invariant-loop-number
invariant-loop-number l = AreGathered l.self.links.numbers.items (take l.number-index l.opposite) l.from l.items.items
