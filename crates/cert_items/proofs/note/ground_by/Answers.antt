use Rattle.std.proofs.Common.{◌∙◌, sym}
use Rattle.std.specs.Prelude.{codes}
use Rattle.cert_format.proofs.LineNotes.{behind_front}
use Rattle.cert_items.proofs.Reading.{is_none}
use Rattle.cert_items.proofs.Covering.{NoNumbered}
use Rattle.cert_items.proofs.GroupNotes.{no_line_note}
use Rattle.cert_items.proofs.note.ground_by.Goals as goal

pub returns-in_default-2-clause-none : goal.returns-in_default-2-clause-none
returns-in_default-2-clause-none c n =
    let s = c.in-Some in
    let k = c.in_ok-input in
    let bad = is_none k.field-0 (NoNumbered s.after.now) c.in_default-2.is k.ensures.none in
    no_line_note c.args.shape n c.args.bytes.now c.requires.format (λ i ts rest h p e. bad i ts rest h p (behind_front (codes "ground(") _ _ (sym s.ensures.some ∙ e)))
