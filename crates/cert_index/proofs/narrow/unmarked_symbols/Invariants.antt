use Rattle.cert_index.specs.Narrow.{AreUnmarked}
use Rattle.cert_index.proofs.narrow.unmarked_symbols.Given as goal

abbrev pub invariant-loop-i : goal.invariant-loop-i
invariant-loop-i l = AreUnmarked l.heads l.fingerprints l.unmarked.keys l.i
