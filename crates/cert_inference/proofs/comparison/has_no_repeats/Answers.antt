use Rattle.std.proofs.Common.{arith, sym, ◌∙◌}
use Rattle.cert_inference.proofs.ComparisonLaws.{one_literal}
use Rattle.cert_inference.proofs.comparison.has_no_repeats.Goals as goal

pub loop-i-preserved : goal.loop-i-preserved
loop-i-preserved c = one_literal c.args.literals.now c.loop-i.i c.index-literals-i.result (omega arith) c.index-literals-i.is (sym c.contains.ensures.value ∙ c.if-contains.false) c.loop-i.invariant
