use Rattle.instgen_loop.proofs.FirstEntries.{whole_after}
use Rattle.instgen_loop.proofs.first_values.add_clauses.Goals as goal

pub add_clause-requires-clause-literals : goal.add_clause-requires-clause-literals
add_clause-requires-clause-literals g c = (whole_after c.args.bank.now c.args.clauses.now c.loop-i.i c.literals_after.result.now c.requires.clauses c.literals_after.ensures).ids
