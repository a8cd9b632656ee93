use Rattle.std.proofs.Common.{◌≡◌, ◌-◌, ◌<◌, ◌≤◌, List, ◌++◌, ◌∷◌, [], length, map, Some, None, sym, ap, ◌∙◌, subst}
use Rattle.std.specs.Prelude.{slice_get, All, AllPairs}
use Rattle.std.proofs.lemmas.Option.{slice_get_within, same_Some, none-some}
use Rattle.std.proofs.lemmas.Bool.{ltb-true, ltb-false}
use Rattle.cdcl_trail.specs.declared.entry.Entry.{Entry}
use Rattle.cdcl_trail.specs.Trail.{literals_of}
use Rattle.cdcl_trail.specs.Values.{AreByAtom, AreValues, entries_of, entry_at}
use Rattle.cdcl_trail.specs.declared.values.Values.{Values}
use Rattle.inst_logic.specs.declared.signed.Signed.{Signed}
use Rattle.std.proofs.Common.{ℕ}
use Rattle.cdcl_trail.proofs.ValuesLaws.{last_at, last_split, split_entries, all_low}
use Rattle.cdcl_trail.proofs.values.Values.ends_above.Goals as goal

-- the last literal's atom has its entry
at_last : (v : Values) (l : Signed ℕ) → AreValues v → slice_get v.literals.items (length v.literals.items - 1) ≡ Some l → slice_get v.entries.items l.atom ≡ Some (Some (entry_at v.entries.items l))
at_last v l held last =
    let s = last_split v.literals.items l last in
    last_at v.entries.items s.0 l (subst (λ ls. literals_of (map (entry_at v.entries.items) ls) ≡ ls) s.1 held.literals)
    (subst (λ ls. AreByAtom (map (entry_at v.entries.items) ls) v.entries.items) s.1 held.by_atom)

split_last : (v : Values) (l : Signed ℕ) → slice_get v.literals.items (length v.literals.items - 1) ≡ Some l → (es : List Entry) × (entries_of v ≡ es ++ entry_at v.entries.items l ∷ [])
split_last v l last =
    let s = last_split v.literals.items l last in
    (map (entry_at v.entries.items) s.0, ap (map (entry_at v.entries.items)) s.1 ∙ split_entries v.entries.items s.0 l)

pub entry-requires : goal.entry-requires
entry-requires c =
    let v = c.args.self.now in
    let l = c.in-Some.l.now in
    let last : slice_get v.literals.items (length v.literals.items - 1) ≡ Some l = subst (λ xs. slice_get xs (length xs - 1) ≡ Some l) c.deref.ensures.value (sym c.in-Some.ensures.value) in
    slice_get_within v.entries.items l.atom (Some (entry_at v.entries.items l)) (at_last v l c.requires.values last)

pub returns-in-Some-entry-clause-above : goal.returns-in-Some-entry-clause-above
returns-in-Some-entry-clause-above c t =
    let v = c.args.self.now in
    let l = c.in-Some.l.now in
    let last : slice_get v.literals.items (length v.literals.items - 1) ≡ Some l = subst (λ xs. slice_get xs (length xs - 1) ≡ Some l) c.deref.ensures.value (sym c.in-Some.ensures.value) in
    let e = entry_at v.entries.items l in
    let same : c.in-Some-entry.entry ≡ e = same_Some c.in-Some-entry.entry e (same_Some (Some c.in-Some-entry.entry) (Some e) (sym c.in-Some-entry.ensures ∙ at_last v l c.requires.values last)) in
    let s = split_last v l last in
    (s.0, e, s.1, subst (λ x. c.args.level < x.level) same (ltb-true c.args.level c.in-Some-entry.entry.level t))

pub returns-in-Some-entry-clause-rest : goal.returns-in-Some-entry-clause-rest
returns-in-Some-entry-clause-rest c f =
    let v = c.args.self.now in
    let l = c.in-Some.l.now in
    let last : slice_get v.literals.items (length v.literals.items - 1) ≡ Some l = subst (λ xs. slice_get xs (length xs - 1) ≡ Some l) c.deref.ensures.value (sym c.in-Some.ensures.value) in
    let e = entry_at v.entries.items l in
    let same : c.in-Some-entry.entry ≡ e = same_Some c.in-Some-entry.entry e (same_Some (Some c.in-Some-entry.entry) (Some e) (sym c.in-Some-entry.ensures ∙ at_last v l c.requires.values last)) in
    let s = split_last v l last in
    subst (All (λ x. x.level ≤ c.args.level)) (sym s.1)
    (all_low s.0 e c.args.level (subst (AllPairs (λ a b. a.level ≤ b.level)) s.1 c.requires.rising) (subst (λ x. x.level ≤ c.args.level) same (ltb-false c.args.level c.in-Some-entry.entry.level f)))

pub returns-in-None-entry-clause-rest : goal.returns-in-None-entry-clause-rest
returns-in-None-entry-clause-rest c f =
    let v = c.args.self.now in
    let l = c.in-Some.l.now in
    let last : slice_get v.literals.items (length v.literals.items - 1) ≡ Some l = subst (λ xs. slice_get xs (length xs - 1) ≡ Some l) c.deref.ensures.value (sym c.in-Some.ensures.value) in
    let e = entry_at v.entries.items l in
    absurd (none-some e (same_Some None (Some e) (sym c.in-None-entry.ensures ∙ at_last v l c.requires.values last)))
