use Rattle.std.proofs.Common.{◌≡◌, ℕ, ◌<◌, ◌∙◌, List, [], ◌∷◌, length, get_or, ap, sym, subst, below_more, arith}
use Rattle.std.specs.Prelude.{Any}
use Rattle.std.proofs.lemmas.List.{get_or_default}
use Rattle.inst_logic.specs.declared.signed.Signed.{Signed}
use Rattle.cert_values.specs.declared.member.Member.{Member}
use Rattle.cert_index.specs.Places.{IsPlaceOf}
use Rattle.cert_index.proofs.PlaceLaws.{no_place}
use Rattle.cert_index.proofs.ShorterLaws.{unit_at}
use Rattle.cert_index.proofs.covers.unit_place.Goals as goal

pub returns-in-Some-clause-some : goal.returns-in-Some-clause-some
returns-in-Some-clause-some c =
    let ms = c.args._members.now in
    let ls = c.as_slice-literals.result.now in
    let j = c.loop-literal.literal-index in
    let l = c.literal-item.result in
    let same = c.as_slice-literals.ensures in
    let within : j < length c.args.c.now = omega (arith, c.loop-literal-test.true, ap (λ (xs : List (Signed ℕ)). length xs) same) in
    let at : get_or c.args.c.now j l ≡ l = ap (λ (xs : List (Signed ℕ)). get_or xs j l) (sym same) ∙ sym c.literal-item.is in
    let place = subst (λ (d : List (Signed ℕ)). IsPlaceOf (λ (m : Member). m.clause ≡ d) ms c.in-Some.k) c.in_ok-unit.ensures
    (c.requires.found c.in_ok-unit.unit c.in-Some.k (sym c.place_of.ensures ∙ c.in-Some.is)) in
    unit_at ms c.args.c.now c.in-Some.k j l within at place

pub loop-literal-preserved : goal.loop-literal-preserved
loop-literal-preserved c i x less =
    let ms = c.args._members.now in
    let ls = c.as_slice-literals.result.now in
    let j = c.loop-literal.literal-index in
    let within : j < length ls = omega (arith, c.loop-literal-test.true) in
    let unknown = c.requires.none c.in_ok-unit.unit (sym c.place_of.ensures ∙ no_place c.place_of.result c.in_default.not-Some) in
    below_more (λ i. (x : Signed ℕ) → ¬ Any (λ (m : Member). m.clause ≡ get_or ls i x ∷ []) ms) j (λ k l y. c.loop-literal.invariant k y l)
    (λ y. let same = c.in_ok-unit.ensures ∙ ap (λ (l : Signed ℕ). l ∷ []) (c.literal-item.is ∙ get_or_default ls j c.literal-item.result y within) in
    subst (λ (d : List (Signed ℕ)). ¬ Any (λ (m : Member). m.clause ≡ d) ms) same unknown) i less x

pub returns-clause-none : goal.returns-clause-none
returns-clause-none c any =
    let ms = c.args._members.now in
    let ls = c.as_slice-literals.result.now in
    let same = c.as_slice-literals.ensures in
    let (k, m, there, is, unit) = any in
    let (i, l, within, at, clause) = unit in
    let less : i < c.loop-literal.literal-index = omega (arith, within, c.loop-literal-test.false, ap (λ (xs : List (Signed ℕ)). length xs) same) in
    let literal : l ≡ get_or ls i l = sym at ∙ ap (λ (xs : List (Signed ℕ)). get_or xs i l) (sym same) in
    c.loop-literal.invariant i l less (k, m, there, is, clause ∙ ap (λ (x : Signed ℕ). x ∷ []) literal)
