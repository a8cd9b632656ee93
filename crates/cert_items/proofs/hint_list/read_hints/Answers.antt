use Rattle.std.proofs.Common.{◌≡◌, ◌∷◌, ◌++◌, [], Bool, List, IsTrue, sym, subst}
use Rattle.cert_format.specs.LineTexts.{hint, hint_is_printable}
use Rattle.cert_items.specs.HintTexts.{hint_end, HasHints, NoHintHead}
use Rattle.cert_values.specs.declared.certificate.GroundHint.{GroundHint}
use Rattle.cert_values.specs.Values.{hint_of}
use Rattle.cert_items.proofs.Reading.{is_none, is_some}
use Rattle.cert_items.proofs.Hints.{no_hints, read_hint}
use Rattle.cert_items.proofs.hint_list.read_hints.Goals as goal

pub returns-in_default-clause-none : goal.returns-in_default-clause-none
returns-in_default-clause-none c =
    let h = subst (λ (e : Bool). HasHints c.loop-ended.list e c.args.bytes.now c.loop-ended.rest.now) c.loop-ended-test.true c.loop-ended.invariant in
    no_hints c.loop-ended.list c.args.bytes.now c.loop-ended.rest.now h (is_none c.in_ok-next.field-0 (NoHintHead c.loop-ended.rest.now) c.in_default.is c.in_ok-next.ensures.none)

pub loop-ended-preserved : goal.loop-ended-preserved
loop-ended-preserved c =
    let h = subst (λ (e : Bool). HasHints c.loop-ended.list e c.args.bytes.now c.loop-ended.rest.now) c.loop-ended-test.true c.loop-ended.invariant in
    let a = is_some c.in_ok-next.field-0 c.in-Some.next (λ next. (h : GroundHint) × (c.item.new.list ≡ c.loop-ended.list ++ h ∷ []) × (c.loop-ended.rest.now ≡ hint (hint_of h) (hint_end next.ended next.rest.now)) × IsTrue (hint_is_printable (hint_of h))) c.in-Some.is c.in_ok-next.ensures.some in
    subst (λ (xs : List GroundHint). HasHints xs c.in-Some.next.ended c.args.bytes.now c.in-Some.next.rest.now) (sym a.1) (read_hint c.loop-ended.list a.0 c.args.bytes.now c.loop-ended.rest.now c.in-Some.next.ended c.in-Some.next.rest.now h a.2 a.3)
