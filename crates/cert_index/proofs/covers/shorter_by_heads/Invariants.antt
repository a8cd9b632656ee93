use Rattle.std.proofs.Common.{ℕ, ◌<◌, List, get_or}
use Rattle.inst_logic.specs.declared.signed.Signed.{Signed}
use Rattle.cert_index.specs.Lengths.{AreGrouped}
use Rattle.cert_index.specs.Lookups.{HasNoShorter}
use Rattle.cert_index.specs.Partners.{Head}
use Rattle.cert_index.proofs.covers.shorter_by_heads.Given as goal

abbrev pub invariant-loop-literal : goal.invariant-loop-literal
invariant-loop-literal l = (i : ℕ) (x : Signed ℕ) → i < l.literal-index → (hs : List Head) → AreGrouped l.sought.members.now hs l.sought.lookup.now.lengths → HasNoShorter l.sought.bank.now l.sought.members.now hs l.sought.lookup.now.fingerprints.items l.sought.len l.sought.clause.now (get_or l.literals i x)
