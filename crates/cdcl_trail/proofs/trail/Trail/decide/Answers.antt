use Rattle.std.proofs.Common.{◌+◌, ◌<◌, ◌≤◌, ◌++◌, ◌∷◌, [], length, refl, sym, ap, subst, arith}
use Rattle.std.proofs.lemmas.List.{length_push}
use Rattle.cdcl_trail.specs.Attached.{Watching, WatchedTrail, AreAttached}
use Rattle.cdcl_trail.specs.Trail.{Trail, IsUnset, with_decision}
use Rattle.cdcl_trail.specs.Values.{entries_of}
use Rattle.cdcl_trail.proofs.TrailLaws.{trail_of, same_trail, decided, level_within}
use Rattle.cdcl_trail.proofs.ValuesLaws.{no_entry, has_room, level_small}
use Rattle.cdcl_trail.proofs.AttachedLaws.{attached_decided, attached_as, trail_as}
use Rattle.cdcl_trail.proofs.trail.Trail.decide.Goals as goal

pub put-requires-clause-level : goal.put-requires-clause-level
put-requires-clause-level c =
    let s = c.self.inside in
    omega (arith, level_small s.watched.values s.level s.spent c.self.invariant.0 c.self.invariant.1)

pub push_reserved-requires : goal.push_reserved-requires
push_reserved-requires c =
    let s = c.self.inside in
    let l = c.args.l in
    let t : Trail = trail_of (length s.watched.values.entries.items) s.level (entries_of s.watched.values) s.spent in
    let low : l.atom < t.atoms = subst (λ (x : WatchedTrail). l.atom < x.trail.atoms) (sym c.self.view_is) c.requires.atom in
    let unset : IsUnset t.entries l.atom = subst (λ (x : WatchedTrail). IsUnset x.trail.entries l.atom) (sym c.self.view_is) c.requires.unset in
    let b = s.watched.values.entries.items in
    let none = no_entry (entries_of s.watched.values) b l.atom c.self.invariant.0.by_atom low unset in
    let few : length (entries_of s.watched.values) < length b = has_room (entries_of s.watched.values) b l.atom c.self.invariant.0.by_atom none in
    let within : s.level ≤ length (entries_of s.watched.values) = level_within t c.self.invariant.1 in
    omega (arith, few, within, c.self.invariant.3, c.self.invariant.4, s.heads.ok.0)

pub put-requires-clause-unset : goal.put-requires-clause-unset
put-requires-clause-unset c =
    subst (λ (x : WatchedTrail). IsUnset x.trail.entries c.args.l.atom) (sym c.self.view_is) c.requires.unset

pub invariant_of-self : goal.invariant_of-self
invariant_of-self c =
    let s = c.self.inside in
    let l = c.args.l in
    let t : Trail = trail_of (length s.watched.values.entries.items) s.level (entries_of s.watched.values) s.spent in
    let low : l.atom < t.atoms = subst (λ (x : WatchedTrail). l.atom < x.trail.atoms) (sym c.self.view_is) c.requires.atom in
    let unset : IsUnset t.entries l.atom = subst (λ (x : WatchedTrail). IsUnset x.trail.entries l.atom) (sym c.self.view_is) c.requires.unset in (
      c.put.ensures.values,
      same_trail (with_decision t l) (length c.put.new.self.entries.items) (entries_of c.put.new.self) (decided t l c.self.invariant.1 low unset) c.put.ensures.atoms c.put.ensures.entries,
      omega (arith, c.self.invariant.2, c.put.ensures.atoms),
      omega (arith, c.self.invariant.3, ap length c.push_reserved.ensures.items, length_push s.heads.items s.head),
      omega (arith, c.self.invariant.4, c.put.ensures.atoms, c.push_reserved.ensures.capacity),
      c.self.invariant.5,
    )

pub returns-clause-attached : goal.returns-clause-attached
returns-clause-attached c clauses a =
    let s = c.self.inside in
    let l = c.args.l in
    let t : Trail = trail_of (length s.watched.values.entries.items) s.level (entries_of s.watched.values) s.spent in
    let low : l.atom < t.atoms = subst (λ (x : WatchedTrail). l.atom < x.trail.atoms) (sym c.self.view_is) c.requires.atom in
    let unset : IsUnset t.entries l.atom = subst (λ (x : WatchedTrail). IsUnset x.trail.entries l.atom) (sym c.self.view_is) c.requires.unset in
    let w : Watching = record { lists = s.watched.lists.items; pairs = s.watched.pairs.items; copies = s.attached.arena; loose = s.attached.loose.items; head = s.head; heads = s.heads.items } in
    let old : AreAttached (record { trail = t; watching = w }) clauses = subst (λ x. AreAttached x clauses) (sym c.self.view_is) a in
    let new = attached_decided t w l clauses c.self.invariant.1 (decided t l c.self.invariant.1 low unset) c.self.invariant.3 old in
    attached_as (with_decision t l) (trail_of (length c.put.new.self.entries.items) (s.level + 1) (entries_of c.put.new.self) s.spent)
    (record { lists = s.watched.lists.items; pairs = s.watched.pairs.items; copies = s.attached.arena; loose = s.attached.loose.items; head = s.head; heads = s.heads.items ++ s.head ∷ [] }) (record { lists = s.watched.lists.items; pairs = s.watched.pairs.items; copies = s.attached.arena; loose = s.attached.loose.items; head = s.head; heads = c.push_reserved.new.self.items }) clauses
    (trail_as (length c.put.new.self.entries.items) (s.level + 1) (entries_of c.put.new.self) s.spent (with_decision t l) c.put.ensures.atoms refl c.put.ensures.entries refl)
    (ap (λ hs. record { lists = s.watched.lists.items; pairs = s.watched.pairs.items; copies = s.attached.arena; loose = s.attached.loose.items; head = s.head; heads = hs }) c.push_reserved.ensures.items) new
