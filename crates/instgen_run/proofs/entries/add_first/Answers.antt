use Rattle.std.proofs.Common.{sym}
use Rattle.instgen_run.proofs.Firsts.{first_left, empty_flagged}
use Rattle.instgen_run.proofs.entries.add_first.Goals as goal

pub returns-in-None-clause-firsts : goal.returns-in-None-clause-firsts
returns-in-None-clause-firsts g c = λ o. empty_flagged (g.I.PartnerIndex.pairs) c.args.entries.now c.args.entries.now.clauses.entries c.args.clause.now c.requires.firsts c.requires.bounded (sym c.in-None.ensures) o

pub returns-else-is_indexed-clause-firsts : goal.returns-else-is_indexed-clause-firsts
returns-else-is_indexed-clause-firsts g c = λ o.
    first_left (g.I.PartnerIndex.pairs) c.args.entries.now c.args.entries.now.clauses.entries c.args.clause.now c.in-Some.l.now c.requires.firsts c.requires.bounded
    (c.is_indexed.ensures.no c.if-is_indexed.false) (sym c.in-Some.ensures) o
