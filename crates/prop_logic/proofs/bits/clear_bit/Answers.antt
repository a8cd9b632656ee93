use Rattle.std.proofs.Common.{sym, ◌∙◌}
use Rattle.std.proofs.lemmas.Bool.{eqb-true}
use Rattle.std.specs.Int.{bit_at}
use Rattle.prop_logic.proofs.BitLaws.{flip_here, flip_other}
use Rattle.prop_logic.proofs.bits.clear_bit.Goals as goal

pub returns-then-has_bit-clause-here : goal.returns-then-has_bit-clause-here
returns-then-has_bit-clause-here c = flip_here c.args.word c.args.bit c.requires (eqb-true (bit_at c.args.word c.args.bit) 1 (sym c.has_bit.ensures ∙ c.if-has_bit.true))

pub returns-then-has_bit-clause-others : goal.returns-then-has_bit-clause-others
returns-then-has_bit-clause-others c i n = flip_other c.args.word c.args.bit i c.requires n
