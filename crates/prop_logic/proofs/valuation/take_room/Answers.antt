use Rattle.std.proofs.Common.{ap, ◌∙◌}
use Rattle.prop_logic.specs.Packed.{values_of}
use Rattle.prop_logic.proofs.PackedLaws.{values_zero}
use Rattle.prop_logic.proofs.valuation.take_room.Goals as goal

pub returns-in_ok-push-clause-values : goal.returns-in_ok-push-clause-values
returns-in_ok-push-clause-values c n = ap (λ ws. values_of ws n) c.in_ok-push.ensures.items ∙ values_zero c.args.words.now.items n
