use Rattle.szs_prove.proofs.Marked.{IsPartOfFront}
use Rattle.szs_prove.proofs.marking.marked_places.Given as goal

abbrev pub invariant-loop-i : goal.invariant-loop-i
invariant-loop-i l = IsPartOfFront l.places l.i l.some.items
