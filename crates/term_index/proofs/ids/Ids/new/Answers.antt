use Rattle.std.proofs.Common.{refl, arith}
use Rattle.term_index.proofs.IdLaws.{distinct_one}
use Rattle.term_index.proofs.ids.Ids.new.Goals as goal

pub invariant_of-result : goal.invariant_of-result
invariant_of-result c = (refl, omega arith, λ _. c.new.ensures.empty, distinct_one c.new.result.keys c.args.id c.new.ensures.empty)
