use Rattle.std.proofs.Common.{length, ap, arith}
use Rattle.prop_logic.proofs.PackedLaws.{values_length}
use Rattle.prop_logic.proofs.valuation.Valuation.word_count.Goals as goal

pub returns-clause-enough : goal.returns-clause-enough
returns-clause-enough c = omega (arith, ap length c.self.view_is, values_length c.self.inside.words.items c.self.inside.len)

pub returns-clause-bound : goal.returns-clause-bound
returns-clause-bound c = omega (arith, c.self.invariant.0)
