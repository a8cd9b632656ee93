use Rattle.std.proofs.Common.{◌≡◌, ◌<◌, ◌≤◌, ◌^◌, ◌++◌, ◌∷◌, [], length, map, set, Some, sym, ap, ◌∙◌, subst, arith, length-set}
use Rattle.std.proofs.lemmas.List.{length-map}
use Rattle.std.specs.Prelude.{vec_capacity}
use Rattle.cdcl_trail.specs.Trail.{literals_of}
use Rattle.cdcl_trail.specs.Values.{AreByAtom, ArePlaces, entries_of, entry_at}
use Rattle.cdcl_trail.proofs.ValuesLaws.{no_entry, has_room, few_entries, put_by_atom, put_places, put_entries, put_literals}
use Rattle.cdcl_trail.proofs.values.Values.put.Goals as goal

pub push_reserved-requires : goal.push_reserved-requires
push_reserved-requires c =
    let v = c.args.self.now in
    let none = no_entry (entries_of v) v.entries.items c.args.entry.lit.atom c.requires.values.by_atom c.requires.atom c.requires.unset in
    let few = has_room (entries_of v) v.entries.items c.args.entry.lit.atom c.requires.values.by_atom none in
    let n : length (entries_of v) ≡ length v.literals.items = length-map v.literals.items (entry_at v.entries.items) in
    let room : length v.entries.items ≤ vec_capacity v.literals = c.requires.values.room in
    omega (arith, few, n, room, v.literals.ok.0)

pub put-requires-clause-atom : goal.put-requires-clause-atom
put-requires-clause-atom c = let small = c.requires.values.small in omega (arith, small, c.requires.atom)

pub put-requires-clause-place : goal.put-requires-clause-place
put-requires-clause-place c =
    let v = c.args.self.now in
    let small : length v.entries.items < 2 ^ 31 = c.requires.values.small in
    let few = few_entries (entries_of v) v.entries.items c.requires.values.by_atom in
    let n : length (entries_of v) ≡ length v.literals.items = length-map v.literals.items (entry_at v.entries.items) in
    omega (arith, small, few, n, v.literals.ok.0, c.len.ensures)

pub returns-clause-values : goal.returns-clause-values
returns-clause-values c =
    let v = c.args.self.now in
    let e = c.args.entry in
    let new = set v.entries.items e.lit.atom (Some e) in
    let none = no_entry (entries_of v) v.entries.items e.lit.atom c.requires.values.by_atom c.requires.atom c.requires.unset in
    let items : c.put.new.self.items ≡ new = c.put.ensures.items in
    let entries : map (entry_at c.put.new.self.items) c.push_reserved.new.self.items ≡ entries_of v ++ e ∷ [] =
    ap (λ x. map (entry_at x) c.push_reserved.new.self.items) items ∙ ap (map (entry_at new)) c.push_reserved.ensures.items ∙ put_entries v.entries.items v.literals.items e c.requires.values.literals c.requires.atom c.requires.unset in
    let count : length (entries_of v) ≡ c.len.result = omega (arith, length-map v.literals.items (entry_at v.entries.items), v.literals.ok.0, c.len.ensures) in
    let size : length new ≡ length v.entries.items = length-set v.entries.items e.lit.atom (Some e) in
    let room : length v.entries.items ≤ vec_capacity v.literals = c.requires.values.room in
    record {
      by_atom = subst (λ es. AreByAtom es c.put.new.self.items) (sym entries) (subst (AreByAtom (entries_of v ++ e ∷ [])) (sym items) (put_by_atom (entries_of v) v.entries.items e none c.requires.values.by_atom));
      places = subst (λ es. ArePlaces es c.put.new.self.items c.put.new.self.places) (sym entries)
          (subst (λ x. ArePlaces (entries_of v ++ e ∷ []) x c.put.new.self.places) (sym items)
          (subst (ArePlaces (entries_of v ++ e ∷ []) new) (sym c.put.ensures.places)
          (subst (λ n. ArePlaces (entries_of v ++ e ∷ []) new (set v.entries.places e.lit.atom n)) count (put_places (entries_of v) v.entries.items v.entries.places e c.requires.atom c.requires.values.places))));
      literals = ap literals_of entries ∙ put_literals (entries_of v) v.literals.items e c.requires.values.literals ∙ sym c.push_reserved.ensures.items;
      room = omega (arith, room, size, ap length items, c.push_reserved.ensures.capacity);
      small = let small = c.requires.values.small in omega (arith, small, size, ap length items);
    }

pub returns-clause-entries : goal.returns-clause-entries
returns-clause-entries c =
    let v = c.args.self.now in
    let new = set v.entries.items c.args.entry.lit.atom (Some c.args.entry) in
    ap (λ x. map (entry_at x) c.push_reserved.new.self.items) c.put.ensures.items ∙ ap (map (entry_at new)) c.push_reserved.ensures.items
    ∙ put_entries v.entries.items v.literals.items c.args.entry c.requires.values.literals c.requires.atom c.requires.unset
