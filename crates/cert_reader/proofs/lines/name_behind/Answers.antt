use Rattle.std.proofs.Common.{◌∙◌, sym}
use Rattle.cert_format.proofs.LineNotes.{behind_front}
use Rattle.cert_reader.proofs.NameLines.{none_then}
use Rattle.cert_reader.proofs.lines.name_behind.Goals as goal

pub returns-in-Some-clause-none : goal.returns-in-Some-clause-none
returns-in-Some-clause-none c = none_then c.text_name.result (λ bad n rest h e. bad n rest h (behind_front c.args.words.now _ _ (sym c.in-Some.ensures.some ∙ e))) c.text_name.ensures.none
