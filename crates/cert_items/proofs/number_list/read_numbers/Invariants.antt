use Rattle.std.proofs.Common.{length}
use Rattle.cert_items.specs.NumberTexts.{HasNumbers}
use Rattle.cert_items.proofs.number_list.read_numbers.Given as goal

abbrev pub invariant-loop-ended : goal.invariant-loop-ended
invariant-loop-ended l = HasNumbers l.letter l.list l.ended l.bytes l.rest

abbrev pub decreases-loop-ended : goal.decreases-loop-ended
decreases-loop-ended l = length l.rest
