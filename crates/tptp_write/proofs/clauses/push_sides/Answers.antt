use Rattle.std.proofs.Common.{arith}
use Rattle.std.proofs.lemmas.Grind.{common_steps}
use Rattle.tptp_write.proofs.Walks.{other_sides}
use Rattle.tptp_write.proofs.clauses.push_sides.Goals as goal
use Rattle.tptp_write.proofs.clauses.push_sides.Goals.{in_default-via-then-as_slice-lt2, in_default-via-else-as_slice-lt2+else-this-lt3}

pub returns-in_default : goal.returns-in_default
returns-in_default c = elim c.in_default.branch [
  | in_default-via-then-as_slice-lt2 w ↦ grind (arith, common_steps, other_sides)
  | in_default-via-else-as_slice-lt2+else-this-lt3 w ↦ grind (arith, common_steps, other_sides)
]
