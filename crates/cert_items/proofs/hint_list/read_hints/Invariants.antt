use Rattle.std.proofs.Common.{length}
use Rattle.cert_items.specs.HintTexts.{HasHints}
use Rattle.cert_items.proofs.hint_list.read_hints.Given as goal

abbrev pub invariant-loop-ended : goal.invariant-loop-ended
invariant-loop-ended l = HasHints l.list l.ended l.bytes l.rest

abbrev pub decreases-loop-ended : goal.decreases-loop-ended
decreases-loop-ended l = length l.rest
