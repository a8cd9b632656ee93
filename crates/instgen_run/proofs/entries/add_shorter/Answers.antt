use Rattle.std.proofs.Common.{arith}
use Rattle.std.proofs.lemmas.Result.{on_ok_weaker}
use Rattle.instgen_run.proofs.Firsts.{first_stored}
use Rattle.instgen_run.proofs.entries.add_shorter.Goals as goal

pub insert-requires-clause-absent : goal.insert-requires-clause-absent
insert-requires-clause-absent g c = λ i. let h = c.requires.firsts.below (c.args.l.atom, c.args.number) i in absurd (omega arith)

pub returns-clause-firsts : goal.returns-clause-firsts
returns-clause-firsts g c =
    let n = c.args.entries.now in
    on_ok_weaker c.insert.result (λ added o. first_stored g.I.PartnerIndex.pairs n c.insert.new.self n.clauses.entries c.args.clause.now c.args.l c.args.number
    c.requires.firsts c.requires.bounded c.requires.first c.requires.number added o) c.insert.ensures.added
