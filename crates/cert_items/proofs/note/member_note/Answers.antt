use Rattle.std.proofs.Common.{◌≡◌, ◌≢◌, ℕ, ◌^◌, ◌<◌, true, List, ◌∷◌, ◌++◌}
use Rattle.std.specs.Prelude.{codes, decimal}
use Rattle.inst_calculus.specs.Entries.{Origin}
use Rattle.cert_format.specs.LineMachine.{fits_origin}
use Rattle.cert_format.specs.LineTexts.{origin_text, origin_is_printable}
use Rattle.cert_items.specs.Notes.{NoOrigin}
use Rattle.cert_items.proofs.Reading.{is_none}
use Rattle.cert_items.proofs.GroupNotes.{no_member_note, no_selected_note}
use Rattle.cert_items.proofs.note.member_note.Goals as goal

pub returns-in_default-clause-none : goal.returns-in_default-clause-none
returns-in_default-clause-none c n =
    let k = c.in_ok-o in
    no_member_note c.args.shape n c.args.bytes.now c.if-shape.true (is_none k.field-0 (NoOrigin c.args.shape.format c.args.bytes.now) c.in_default.is k.ensures.none)

pub returns-in_default-2-clause-none : goal.returns-in_default-2-clause-none
returns-in_default-2-clause-none c n =
    let k = c.in_ok-o-2 in
    no_selected_note c.args.shape n c.args.bytes.now c.if-shape.false
    (is_none k.field-0
    ((o : Origin) (p : ℕ) (rest : List ℕ) → origin_is_printable o ≡ true → fits_origin c.args.shape.format o ≡ true → p < 2 ^ 64 → c.args.bytes.now ≢ origin_text o (codes ",[selected(" ++ (decimal p ++ 41 ∷ 93 ∷ rest))) c.in_default-2.is k.ensures.none)
