use Rattle.std.proofs.Common.{◌≡◌, map, take}
use Rattle.cert_index.specs.Fingerprints.{top_marks}
use Rattle.cert_index.proofs.fingerprint.tops_of.Given as goal

abbrev pub invariant-loop-fingerprint : goal.invariant-loop-fingerprint
invariant-loop-fingerprint l = l.tops.items ≡ map top_marks (take l.fingerprint-index l.fingerprints)
