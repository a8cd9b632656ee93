use Rattle.std.proofs.Common.{take}
use Rattle.cert_index.specs.Chains.{AreAlike}
use Rattle.cert_index.proofs.meetings.find_alike.Given as goal

abbrev pub invariant-loop-q : goal.invariant-loop-q
invariant-loop-q l = AreAlike l.fingerprints l.p (take l.q-index l.places) l.alike.items
