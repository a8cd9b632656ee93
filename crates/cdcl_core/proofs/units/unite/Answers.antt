use Rattle.std.proofs.Common.{◌≡◌, ℕ, ◌<◌, ◌∙◌, ap, subst, arith, length, map, ◌∷◌, [], Some, false, sym}
use Rattle.std.specs.Prelude.{slice_get, IfSome}
use Rattle.std.proofs.lemmas.List.{length-map}
use Rattle.prop_logic.specs.Literal.{cited}
use Rattle.prop_logic.specs.Analysis.{ClosesAll}
use Rattle.prop_logic.proofs.ListLaws.{Contains-slice_get}
use Rattle.cdcl_trail.specs.declared.entry.Entry.{Entry}
use Rattle.cdcl_core.specs.Search.{IsLogMore}
use Rattle.cdcl_core.proofs.EntryLaws.{entry_at}
use Rattle.cdcl_core.proofs.MeetLaws.{reason_read, on_ok}
use Rattle.cdcl_core.proofs.units.unite.Goals as goal

pub unit_hints-requires-clause-given : goal.unit_hints-requires-clause-given
unit_hints-requires-clause-given c = λ e at.
    let t = c.args.trail.now.trail in
    reason_read t e c.literal_at-lit.result c.reason.result c.assigned.ensures.trail (Contains-slice_get t.entries c.args.place e at) (c.literal_at-lit.ensures.literal e at) c.reason.ensures ∙ c.in-Some.is

pub push_unit-requires : goal.push_unit-requires
push_unit-requires c =
    let t = c.args.trail.now.trail in
    let log = c.args.log.now in
    let f = entry_at t.entries c.args.place (record { positive = false; atom = 0 }) (omega (arith, c.if-assigned-place.false, ap length c.assigned.ensures.literals, length-map t.entries (λ e. e.lit))) in
    let shown : ClosesAll (f.0.lit ∷ []) (map (cited log.added log.steps) c.in-Some-2.hints.items) =
    subst (λ o. IfSome o (λ hints. (e : Entry) → slice_get t.entries c.args.place ≡ Some e → ClosesAll (e.lit ∷ []) (map (cited log.added log.steps) hints.items))) c.in-Some-2.is c.in_ok-unit_hints-in-Some.ensures f.0 f.1 in
    subst (λ hs. ClosesAll (c.literal_at-lit.result ∷ []) (map (cited log.added log.steps) hs)) (sym c.as_slice.ensures.value)
    (subst (λ l. ClosesAll (l ∷ []) (map (cited log.added log.steps) c.in-Some-2.hints.items)) (sym (c.literal_at-lit.ensures.literal f.0 f.1)) shown)

pub returns-in-Some-2-clause-more : goal.returns-in-Some-2-clause-more
returns-in-Some-2-clause-more c =
    let t = c.args.trail.now.trail in
    let old = c.args.log.now in
    let new = c.push_unit.new.log in
    on_ok c.push_unit.result ((atoms : ℕ) → c.literal_at-lit.result.atom < atoms → IsLogMore atoms old new) (IsLogMore t.atoms old new) (λ more. more t.atoms c.literal_at-lit.ensures.atom) c.push_unit.ensures.more
