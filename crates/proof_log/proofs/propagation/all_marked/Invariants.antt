use Rattle.std.proofs.Common.{ℕ, List, take}
use Rattle.std.specs.Prelude.{All, Contains}
use Rattle.inst_logic.specs.declared.signed.Signed.{Signed}
use Rattle.proof_log.specs.Marks.{Holds}
use Rattle.proof_log.proofs.propagation.all_marked.Given as goal

abbrev pub invariant-loop-lit : goal.invariant-loop-lit
invariant-loop-lit l = (F : List (Signed ℕ)) → Holds l.marks F → All (Contains F) (take l.lit-index l.clause)
