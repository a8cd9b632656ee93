use Rattle.std.proofs.Common.{List}
use Rattle.cert_index.specs.Chains.{AreOpposites, TellsApart}
use Rattle.cert_index.specs.Partners.{Head}
use Rattle.cert_index.proofs.meetings.opposites_within.Given as goal

abbrev pub invariant-loop-p : goal.invariant-loop-p
invariant-loop-p l = (hs : List Head) → TellsApart hs l.fingerprints l.meetings → AreOpposites hs l.fingerprints l.p l.opposites
