use Rattle.std.proofs.Common.{◌≡◌, ◌++◌, drop}
use Rattle.szs_prove.specs.TableTexts.{more_elements}
use Rattle.szs_prove.proofs.table_texts.push_more.Given as goal

abbrev pub invariant-loop-e : goal.invariant-loop-e
invariant-loop-e l = l.text.items ++ more_elements (drop l.e-index l.es) ≡ l.initial.text.items ++ more_elements l.es
