use Rattle.std.proofs.Common.{sym, ◌∙◌}
use Rattle.tptp_read.proofs.NameSets.{place_found, place_absent}
use Rattle.tptp_read.proofs.numbers.place_of.Goals as goal

pub returns-in-Some : goal.returns-in-Some
returns-in-Some c = place_found c.args.name.now c.args.vars.now.keys c.in-Some.i (sym c.in-Some.ensures.index)

pub returns-in-None : goal.returns-in-None
returns-in-None c = c.len.ensures.len ∙ place_absent c.args.name.now c.args.vars.now.keys (sym c.in-None.ensures.index)
