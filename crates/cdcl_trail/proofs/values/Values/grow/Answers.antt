use Rattle.std.proofs.Common.{◌≡◌, ◌++◌, ◌∷◌, [], length, map, None, sym, ap, ◌∙◌, subst, arith}
use Rattle.std.proofs.lemmas.List.{length-map, length_push}
use Rattle.cdcl_trail.specs.Trail.{literals_of}
use Rattle.cdcl_trail.specs.EntriesByAtom.{EntriesByAtom}
use Rattle.cdcl_trail.specs.Values.{AreByAtom, ArePlaces, entries_of, entry_at}
use Rattle.cdcl_trail.proofs.ValuesLaws.{grown_entries, grown_by_atom, grown_places, few_entries}
use Rattle.cdcl_trail.proofs.values.Values.grow.Goals as goal

pub returns-in_err-push-clause-values : goal.returns-in_err-push-clause-values
returns-in_err-push-clause-values c =
    let v = c.args.self.now in
    let b = v.entries.items in
    let same : c.push.new.self ≡ v.entries = c.in_err-push.ensures.err in
    let items : c.push.new.self.items ≡ b = ap (λ (t : EntriesByAtom). t.items) same in
    let entries : map (entry_at c.push.new.self.items) c.reserve.new.self.items ≡ entries_of v = ap (λ x. map (entry_at x) c.reserve.new.self.items) items ∙ ap (map (entry_at b)) c.in_ok-reserve.ensures.items in
    record {
      by_atom = subst (λ es. AreByAtom es c.push.new.self.items) (sym entries) (subst (λ x. AreByAtom (entries_of v) x) (sym items) c.requires.by_atom);
      places = subst (λ es. ArePlaces es c.push.new.self.items c.push.new.self.places) (sym entries)
          (subst (λ (t : EntriesByAtom). ArePlaces (entries_of v) t.items t.places) (sym same) c.requires.places);
      literals = ap literals_of entries ∙ c.requires.literals ∙ sym c.in_ok-reserve.ensures.items;
      room = omega (arith, c.requires.room, c.in_ok-reserve.ensures.capacity, ap length items);
      small = omega (arith, c.requires.small, ap length items);
    }

pub returns-clause-values : goal.returns-clause-values
returns-clause-values c =
    let v = c.args.self.now in
    let b = v.entries.items in
    let new = b ++ None ∷ [] in
    let e = c.in_ok-push.ensures in
    let items : c.push.new.self.items ≡ new = e.items in
    let entries : map (entry_at c.push.new.self.items) c.reserve.new.self.items ≡ entries_of v =
    ap (λ x. map (entry_at x) c.reserve.new.self.items) items ∙ ap (map (entry_at new)) c.in_ok-reserve.ensures.items ∙ grown_entries b v.literals.items in
    let n : length (entries_of v) ≡ length v.literals.items = length-map v.literals.items (entry_at b) in
    let few = few_entries (entries_of v) b c.requires.by_atom in
    record {
      by_atom = subst (λ es. AreByAtom es c.push.new.self.items) (sym entries) (subst (λ x. AreByAtom (entries_of v) x) (sym items) (grown_by_atom (entries_of v) b c.requires.by_atom));
      places = subst (λ es. ArePlaces es c.push.new.self.items c.push.new.self.places) (sym entries)
          (subst (λ x. ArePlaces (entries_of v) x c.push.new.self.places) (sym items)
          (subst (ArePlaces (entries_of v) new) (sym e.places) (grown_places (entries_of v) b v.entries.places c.requires.places)));
      literals = ap literals_of entries ∙ c.requires.literals ∙ sym c.in_ok-reserve.ensures.items;
      room = omega (arith, few, n, c.in_ok-reserve.ensures.ok, ap length items, length_push b None);
      small = omega (arith, c.requires.small, c.len-atom.ensures, ap length items, length_push b None);
    }

pub returns-clause-entries : goal.returns-clause-entries
returns-clause-entries c =
    let v = c.args.self.now in
    let new = v.entries.items ++ None ∷ [] in
    ap (λ x. map (entry_at x) c.reserve.new.self.items) c.in_ok-push.ensures.items ∙ ap (map (entry_at new)) c.in_ok-reserve.ensures.items ∙ grown_entries v.entries.items v.literals.items
