use Rattle.instgen_loop.proofs.FirstEntries.{whole_after}
use Rattle.instgen_loop.proofs.first_values.have_variables.Goals as goal

pub has_variable-requires : goal.has_variable-requires
has_variable-requires c = (whole_after c.args.bank.now c.args.clauses.now c.loop-i.i c.literals_after.result.now c.requires c.literals_after.ensures).ids
