use Rattle.std.proofs.Common.{◌≡◌, ◌≤◌, ◌++◌, ◌∷◌, [], length, map, set, Some, None, sym, ap, ◌∙◌, subst, arith, length-set}
use Rattle.std.specs.Prelude.{vec_capacity}
use Rattle.std.proofs.lemmas.List.{same_from_push}
use Rattle.std.proofs.lemmas.Option.{slice_get_within}
use Rattle.cdcl_trail.specs.Trail.{literals_of}
use Rattle.cdcl_trail.specs.Values.{AreByAtom, ArePlaces, entry_at}
use Rattle.cdcl_trail.proofs.ValuesLaws.{last_at, split_literals, split_entries, undo_entries, undo_at_atom, undo_at_places}
use Rattle.cdcl_trail.proofs.values.Values.undo.Goals as goal

pub clear-requires : goal.clear-requires
clear-requires c =
    let v = c.args.self.now in
    let b = v.entries.items in
    let same = subst (λ ls. literals_of (map (entry_at b) ls) ≡ ls) c.in-Some.ensures.items c.requires.literals in
    let held = subst (λ ls. AreByAtom (map (entry_at b) ls) b) c.in-Some.ensures.items c.requires.by_atom in
    let at = last_at b c.pop.new.self.items c.in-Some.l same held in
    slice_get_within b c.in-Some.l.atom (Some (entry_at b c.in-Some.l)) at

pub returns-in-Some-clause-values : goal.returns-in-Some-clause-values
returns-in-Some-clause-values c =
    let v = c.args.self.now in
    let b = v.entries.items in
    let a = c.in-Some.l.atom in
    let ls = c.pop.new.self.items in
    let same = subst (λ xs. literals_of (map (entry_at b) xs) ≡ xs) c.in-Some.ensures.items c.requires.literals in
    let held = subst (λ xs. AreByAtom (map (entry_at b) xs) b) c.in-Some.ensures.items c.requires.by_atom in
    let items : c.clear.new.self.items ≡ set b a None = c.clear.ensures.items in
    let entries : map (entry_at c.clear.new.self.items) ls ≡ map (entry_at b) ls = ap (λ x. map (entry_at x) ls) items ∙ undo_entries b ls c.in-Some.l same held in
    let size : length (set b a None) ≡ length b = length-set b a None in
    let room : length b ≤ vec_capacity v.literals = c.requires.room in
    record {
      by_atom = subst (λ es. AreByAtom es c.clear.new.self.items) (sym entries) (subst (AreByAtom (map (entry_at b) ls)) (sym items) (undo_at_atom b ls c.in-Some.l same held));
      places = subst (λ es. ArePlaces es c.clear.new.self.items c.clear.new.self.places) (sym entries)
          (subst (λ x. ArePlaces (map (entry_at b) ls) x c.clear.new.self.places) (sym items)
          (subst (ArePlaces (map (entry_at b) ls) (set b a None)) (sym c.clear.ensures.places)
          (undo_at_places b v.entries.places ls c.in-Some.l same held (subst (λ xs. ArePlaces (map (entry_at b) xs) b v.entries.places) c.in-Some.ensures.items c.requires.places))));
      literals = ap literals_of entries ∙ (split_literals b ls c.in-Some.l same).0;
      room = omega (arith, room, size, ap length items, c.in-Some.ensures.capacity);
      small = omega (arith, c.requires.small, size, ap length items);
    }

pub returns-in-Some-clause-entries : goal.returns-in-Some-clause-entries
returns-in-Some-clause-entries c es e split =
    let v = c.args.self.now in
    let b = v.entries.items in
    let ls = c.pop.new.self.items in
    let same = subst (λ xs. literals_of (map (entry_at b) xs) ≡ xs) c.in-Some.ensures.items c.requires.literals in
    let held = subst (λ xs. AreByAtom (map (entry_at b) xs) b) c.in-Some.ensures.items c.requires.by_atom in
    let last : map (entry_at b) ls ++ entry_at b c.in-Some.l ∷ [] ≡ es ++ e ∷ [] = sym (split_entries b ls c.in-Some.l) ∙ ap (map (entry_at b)) (sym c.in-Some.ensures.items) ∙ split in
    ap (λ x. map (entry_at x) ls) c.clear.ensures.items ∙ undo_entries b ls c.in-Some.l same held ∙ (same_from_push (map (entry_at b) ls) es (entry_at b c.in-Some.l) e last).0
