use Rattle.cert_index.specs.Buckets.{AreNumbered}
use Rattle.cert_index.proofs.buckets.number_all.Given as goal

abbrev pub invariant-loop-i : goal.invariant-loop-i
invariant-loop-i l = AreNumbered l.known.keys l.heads l.fingerprints l.numbers.items l.i
