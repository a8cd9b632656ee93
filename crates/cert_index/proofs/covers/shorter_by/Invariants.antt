use Rattle.std.proofs.Common.{◌-◌, List, length}
use Rattle.cert_index.specs.Lengths.{AreGrouped}
use Rattle.cert_index.specs.Lookups.{IsPastShorter}
use Rattle.cert_index.specs.Partners.{Head, IsHeadAt}
use Rattle.cert_index.proofs.covers.shorter_by.Given as goal

abbrev pub invariant-loop-lengths : goal.invariant-loop-lengths
invariant-loop-lengths l =
    (hs : List Head) → AreGrouped l.sought.members.now hs l.sought.lookup.now.lengths → (h : Head) → IsHeadAt l.sought.bank.now l.literal h
    → IsPastShorter l.sought.bank.now l.sought.members.now hs l.sought.lookup.now.lengths.ranked.items l.sought.lookup.now.fingerprints.items l.sought.len l.sought.clause.now l.literal h l.j

abbrev pub decreases-loop-lengths : goal.decreases-loop-lengths
decreases-loop-lengths l = length l.sought.lookup.now.lengths.ranked.items - l.j
