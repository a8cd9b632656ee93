use Rattle.std.proofs.Common.{◌≡◌, ◌++◌, take}
use Rattle.szs_prove.specs.CoreTexts.{place_words}
use Rattle.szs_prove.proofs.core_text.push_places.Given as goal

abbrev pub invariant-loop-i : goal.invariant-loop-i
invariant-loop-i l = l.text.items ≡ l.initial.text.items ++ place_words (take l.i l.places)
