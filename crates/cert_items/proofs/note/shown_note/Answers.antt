use Rattle.std.proofs.Common.{◌∙◌, sym}
use Rattle.cert_items.proofs.GroupNotes.{no_shown_form}
use Rattle.cert_items.proofs.note.shown_note.Goals as goal

pub returns-then-not-names_covers-clause-none : goal.returns-then-not-names_covers-clause-none
returns-then-not-names_covers-clause-none c n = no_shown_form c.args.shape n c.args.bytes.now (sym c.names_covers.ensures ∙ c.if-not-names_covers.true)
