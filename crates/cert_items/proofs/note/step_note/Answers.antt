use Rattle.std.proofs.Common.{Bor, List, ℕ, map, true, refl}
use Rattle.cert_values.specs.Values.{hint_of}
use Rattle.cert_items.specs.HintTexts.{HasHints}
use Rattle.cert_items.proofs.Reading.{is_some}
use Rattle.cert_items.proofs.GroupNotes.{no_step_form, step_note, no_map}
use Rattle.cert_items.proofs.note.step_note.Goals as goal

pub returns-then-not-shape-clause-none : goal.returns-then-not-shape-clause-none
returns-then-not-shape-clause-none c n = no_step_form c.args.shape n c.args.bytes.now c.if-not-shape.true

pub returns-clause-some : goal.returns-clause-some
returns-clause-some c n f =
    let h = is_some c.in_ok-rest.field-0 c.in-Some-2.rest (λ (x : Bor (List ℕ)). HasHints c.read_hints.new.list true c.in-Some.after.now x.now) c.in-Some-2.is c.in_ok-rest.ensures.some in
    step_note c.args.shape n (map hint_of c.read_hints.new.list) c.args.bytes.now c.in-Some.after.now c.in-Some-2.rest.now c.if-not-shape.false c.in-Some.ensures.some h.is h.printable
    (λ e. h.some refl (no_map hint_of c.read_hints.new.list e))
