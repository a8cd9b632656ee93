use Rattle.std.proofs.Common.{arith}
use Rattle.std.proofs.lemmas.Grind.{common_steps}
use Rattle.tptp_write.proofs.Walks.{other_sides}
use Rattle.cert_text.proofs.clauses.push_sides.Goals as goal

pub returns-then-args-ne2 : goal.returns-then-args-ne2
returns-then-args-ne2 c = grind (arith, common_steps, other_sides)
