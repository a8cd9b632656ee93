use Rattle.szs_prove.specs.CoreCertificates.{AreRests}
use Rattle.szs_prove.proofs.core_certificates.rests_of.Given as goal

abbrev pub invariant-loop-i : goal.invariant-loop-i
invariant-loop-i l = AreRests l.lists l.places l.i l.rests
