use Rattle.cert_index.specs.Chains.{AreOpposites}
use Rattle.cert_index.proofs.meetings.find_opposites.Given as goal

abbrev pub invariant-loop-p : goal.invariant-loop-p
invariant-loop-p l = AreOpposites l.classes.heads.items l.fingerprints l.p l.opposites
