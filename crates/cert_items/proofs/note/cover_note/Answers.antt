use Rattle.std.proofs.Common.{◌≡◌, ◌∙◌, sym}
use Rattle.std.specs.Prelude.{IsTrue}
use Rattle.cert_format.specs.LineTexts.{by_text, by_is_printable}
use Rattle.cert_values.specs.Values.{by_of, side_of}
use Rattle.cert_items.specs.Notes.{NoBy}
use Rattle.cert_items.proofs.Reading.{is_none, is_some}
use Rattle.cert_items.proofs.GroupNotes.{no_cover_form, no_cover_by, no_cover_end}
use Rattle.cert_items.proofs.note.cover_note.Goals as goal

pub returns-then-not-names_covers-clause-none : goal.returns-then-not-names_covers-clause-none
returns-then-not-names_covers-clause-none c n = no_cover_form c.args.shape n c.args.bytes.now (sym c.names_covers.ensures ∙ c.if-not-names_covers.true)

pub returns-in_default-2-clause-none : goal.returns-in_default-2-clause-none
returns-in_default-2-clause-none c n =
    let s = c.in-Some in
    let k = c.in_ok-by in
    no_cover_by c.args.shape n s.left s.right (side_of s.side) c.args.bytes.now s.after.now s.ensures.some s.ensures.fits.0 s.ensures.fits.1 (is_none k.field-0 (NoBy s.after.now) c.in_default-2.is k.ensures.none)

pub returns-in_default-mark-clause-none : goal.returns-in_default-mark-clause-none
returns-in_default-mark-clause-none c n =
    let s = c.in-Some in
    let k = c.in-Some-2 in
    let r = c.in_ok-by in
    let f = c.read_by.new.reader in
    let text = is_some r.field-0 (k.by, k.behind) (λ p. s.after.now ≡ by_text (by_of f p.0) p.1.now) k.is r.ensures.some in
    let good = is_some r.field-0 (k.by, k.behind) (λ p. IsTrue (by_is_printable (by_of f p.0))) k.is r.ensures.printable in
    no_cover_end c.args.shape n s.left s.right (side_of s.side) (by_of f k.by) c.args.bytes.now s.after.now k.behind.now s.ensures.some s.ensures.fits.0 s.ensures.fits.1 text good c.in_default-mark.ensures.none
