use Rattle.prop_logic.proofs.PackedLaws.{value_held}
use Rattle.prop_logic.proofs.valuation.Valuation.value.Goals as goal

pub returns : goal.returns
returns c = value_held c.args.self.now c.args.atom c.bit.result c.bit.ensures
