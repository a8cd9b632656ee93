use Rattle.prop_logic.proofs.BitLaws.{set_here, set_other}
use Rattle.prop_logic.proofs.bits.set_bit.Goals as goal

pub returns-clause-here : goal.returns-clause-here
returns-clause-here c = set_here c.args.word c.args.bit c.requires

pub returns-clause-others : goal.returns-clause-others
returns-clause-others c i n = set_other c.args.word c.args.bit i c.requires n
