use Rattle.szs_prove.specs.CoreTexts.{IsContinued, AreRestTexts}
use Rattle.szs_prove.proofs.core_text.push_rests.Given as goal

abbrev pub invariant-loop-i : goal.invariant-loop-i
invariant-loop-i l = IsContinued l.initial.text.items l.text.items (AreRestTexts l.lists l.file l.places l.i)
