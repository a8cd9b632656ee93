use Rattle.std.proofs.Common.{◌≡◌, ◌∷◌, ◌++◌, [], Bool, List, ℕ, IsTrue, sym, subst}
use Rattle.std.specs.Prelude.{decimal}
use Rattle.cert_format.specs.LineMachine.{is_number}
use Rattle.cert_items.specs.NumberTexts.{number_end, HasNumbers, NoNumberHead}
use Rattle.cert_items.proofs.Reading.{is_none, is_some}
use Rattle.cert_items.proofs.NumberLists.{no_numbers, read_number}
use Rattle.cert_items.proofs.number_list.read_numbers.Goals as goal

pub returns-in_default-clause-none : goal.returns-in_default-clause-none
returns-in_default-clause-none c =
    let l = c.loop-ended in
    let h = subst (λ (e : Bool). HasNumbers c.args.letter.now l.list e c.args.bytes.now l.rest.now) c.loop-ended-test.true l.invariant in
    no_numbers c.args.letter.now l.list c.args.bytes.now l.rest.now h (is_none c.in_ok-next.field-0 (NoNumberHead c.args.letter.now l.rest.now) c.in_default.is c.in_ok-next.ensures.none)

pub loop-ended-preserved : goal.loop-ended-preserved
loop-ended-preserved c =
    let l = c.loop-ended in
    let next = c.in-Some.next in
    let h = subst (λ (e : Bool). HasNumbers c.args.letter.now l.list e c.args.bytes.now l.rest.now) c.loop-ended-test.true l.invariant in
    let a = is_some c.in_ok-next.field-0 next (λ next. (n : ℕ) × (c.item.new.list ≡ l.list ++ n ∷ []) × (l.rest.now ≡ c.args.letter.now ++ (decimal n ++ number_end next.ended next.rest.now)) × IsTrue (is_number n)) c.in-Some.is c.in_ok-next.ensures.some in
    subst (λ (xs : List ℕ). HasNumbers c.args.letter.now xs next.ended c.args.bytes.now next.rest.now) (sym a.1) (read_number c.args.letter.now l.list a.0 c.args.bytes.now l.rest.now next.ended next.rest.now h a.2 a.3)
