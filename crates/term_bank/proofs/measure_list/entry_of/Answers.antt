use Rattle.std.proofs.Common.{length}
use Rattle.term_bank.proofs.measure_list.entry_of.Goals as goal

pub returns-in-Some-clause-within : goal.returns-in-Some-clause-within
returns-in-Some-clause-within c = c.in-Some.ensures.within (length c.args.long.now.items)
