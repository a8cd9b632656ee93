use Rattle.std.proofs.Common.{sym, take, arith}
use Rattle.std.proofs.lemmas.List.{length-take-le}
use Rattle.term_index.proofs.IdLaws.{read_later}
use Rattle.term_index.proofs.ids.Ids.id_at.Goals as goal

pub returns : goal.returns
returns c =
    let i = c.self.inside in
    read_later (take i.count i.first) i.later.keys c.args.self.now i.count c.args.number c.in-Some.id.now c.self.view_is (length-take-le i.count i.first (omega (arith, c.self.invariant.0, c.self.invariant.1))) (omega (arith, c.if-number-self.false)) (sym c.in-Some.ensures.key)
