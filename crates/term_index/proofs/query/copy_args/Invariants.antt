use Rattle.std.proofs.Common.{take}
use Rattle.term_index.specs.Copies.{CopiesArgs}
use Rattle.term_index.proofs.query.copy_args.Given as goal

abbrev pub invariant-loop-a : goal.invariant-loop-a
invariant-loop-a l = CopiesArgs l.initial.ids l.ids l.initial.numbers.items l.numbers.items (take l.a-index l.args)
