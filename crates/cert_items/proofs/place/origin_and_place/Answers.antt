use Rattle.std.proofs.Common.{◌≡◌, ◌∙◌, sym}
use Rattle.std.specs.Prelude.{IsTrue}
use Rattle.cert_format.specs.LineTexts.{origin_text, origin_is_printable}
use Rattle.cert_values.specs.Values.{origin_of}
use Rattle.cert_format.proofs.LineNotes.{origin_once}
use Rattle.cert_items.proofs.Reading.{is_some}
use Rattle.cert_items.proofs.place.origin_and_place.Goals as goal

pub returns-in_default-place-clause-none : goal.returns-in_default-place-clause-none
returns-in_default-place-clause-none c o p rest h f g e =
    let k = c.in_ok-o in
    let s = c.in-Some in
    let text = is_some k.field-0 (s.o, s.after) (λ p. c.args.bytes.now ≡ origin_text (origin_of p.0) p.1.now) s.is k.ensures.some in
    let good = is_some k.field-0 (s.o, s.after) (λ p. IsTrue (origin_is_printable (origin_of p.0))) s.is k.ensures.printable in
    c.in_default-place.ensures.none p rest g (origin_once (origin_of s.o) o s.after.now _ good h (sym text ∙ e)).1
