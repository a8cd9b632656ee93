use Rattle.cert_items.specs.Items.{IsNoteAt, note_of}
use Rattle.cert_items.proofs.Reading.{is_some}
use Rattle.cert_items.proofs.GroupNotes.{no_end}
use Rattle.cert_items.proofs.note.last_note.Goals as goal

pub returns-in_default-word-clause-none : goal.returns-in_default-word-clause-none
returns-in_default-word-clause-none c =
    let k = c.in_ok-note in
    let s = c.in-Some in
    let f = c.read_note.new.reader in
    let a = is_some k.field-0 (s.note, s.behind) (λ p. IsNoteAt c.args.shape c.args.group c.args.n (note_of f p.0) c.args.bytes.now p.1.now) s.is k.ensures.some in
    no_end c.args.shape c.args.group c.args.n (note_of f s.note) c.args.bytes.now s.behind.now a c.in_default-word.ensures.none
