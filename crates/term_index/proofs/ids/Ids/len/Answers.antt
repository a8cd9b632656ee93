use Rattle.std.proofs.Common.{length, take, ap, arith, length-append}
use Rattle.std.proofs.lemmas.List.{length-take-le}
use Rattle.term_index.proofs.ids.Ids.len.Goals as goal

pub returns-clause-len : goal.returns-clause-len
returns-clause-len c =
    let i = c.self.inside in
    omega (arith, ap length c.self.view_is, length-append (take i.count i.first) i.later.keys, length-take-le i.count i.first (omega (arith, c.self.invariant.0, c.self.invariant.1)), c.len.ensures.len)
