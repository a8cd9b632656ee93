use Rattle.std.proofs.Common.{ℕ, ◌≡◌, ◌++◌, List, take}
use Rattle.inst_logic.specs.declared.signed.Signed.{Signed}
use Rattle.proof_log.specs.Marks.{room, Holds}
use Rattle.proof_log.proofs.propagation.mark_all.Given as goal

abbrev pub invariant-loop-lit : goal.invariant-loop-lit
invariant-loop-lit l = record {
  same_room : room l.marks ≡ room l.fn.marks;
  marked : (F : List (Signed ℕ)) → Holds l.fn.marks F → Holds l.marks (F ++ take l.lit-index l.clause);
}
