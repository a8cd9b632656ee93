use Rattle.std.proofs.Common.{◌∷◌, ◌∙◌, sym}
use Rattle.cert_format.proofs.LineNotes.{behind_front}
use Rattle.cert_reader.proofs.NameLines.{none_then}
use Rattle.cert_reader.proofs.lines.about.Goals as goal

pub returns-in-None-word-clause-none : goal.returns-in-None-word-clause-none
returns-in-None-word-clause-none c rest e = c.in-None-word.ensures.none (10 ∷ rest) (behind_front c.args.words.now _ _ (sym c.in-Some.ensures.some ∙ e))

pub returns-in-Some-word-clause-none : goal.returns-in-Some-word-clause-none
returns-in-Some-word-clause-none c =
    none_then c.mark.result (λ bad rest e. bad rest (behind_front c.args.name.now _ _ (sym c.in-Some-word.ensures.some ∙ behind_front c.args.words.now _ _ (sym c.in-Some.ensures.some ∙ e)))) c.mark.ensures.none
