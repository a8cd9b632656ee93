use Rattle.std.proofs.Common.{◌<◌, length, refl, sym, subst, arith}
use Rattle.cdcl_trail.specs.Attached.{Watching, WatchedTrail, AreAttached}
use Rattle.cdcl_trail.specs.Trail.{Trail, IsUnset, with_implied}
use Rattle.cdcl_trail.specs.Values.{entries_of}
use Rattle.cdcl_trail.proofs.TrailLaws.{trail_of, same_trail, implied}
use Rattle.cdcl_trail.proofs.AttachedLaws.{attached_implied, attached_as, trail_as}
use Rattle.cdcl_trail.proofs.ValuesLaws.{level_small}
use Rattle.cdcl_trail.proofs.trail.Trail.imply.Goals as goal

pub put-requires-clause-level : goal.put-requires-clause-level
put-requires-clause-level c =
    let s = c.self.inside in
    omega (arith, level_small s.watched.values s.level s.spent c.self.invariant.0 c.self.invariant.1)

pub put-requires-clause-unset : goal.put-requires-clause-unset
put-requires-clause-unset c =
    subst (λ (x : WatchedTrail). IsUnset x.trail.entries c.args.l.atom) (sym c.self.view_is) c.requires.unset

pub invariant_of-self : goal.invariant_of-self
invariant_of-self c =
    let s = c.self.inside in
    let l = c.args.l in
    let t : Trail = trail_of (length s.watched.values.entries.items) s.level (entries_of s.watched.values) s.spent in
    let low : l.atom < t.atoms = subst (λ (x : WatchedTrail). l.atom < x.trail.atoms) (sym c.self.view_is) c.requires.atom in
    let unset : IsUnset t.entries l.atom = subst (λ (x : WatchedTrail). IsUnset x.trail.entries l.atom) (sym c.self.view_is) c.requires.unset in (
      c.put.ensures.values,
      same_trail (with_implied t l c.args.reason) (length c.put.new.self.entries.items) (entries_of c.put.new.self) (implied t l c.args.reason c.self.invariant.1 low unset) c.put.ensures.atoms c.put.ensures.entries,
      omega (arith, c.self.invariant.2, c.put.ensures.atoms),
      c.self.invariant.3,
      omega (arith, c.self.invariant.4, c.put.ensures.atoms),
      c.self.invariant.5,
    )

pub returns-clause-attached : goal.returns-clause-attached
returns-clause-attached c clauses a =
    let s = c.self.inside in
    let l = c.args.l in
    let t : Trail = trail_of (length s.watched.values.entries.items) s.level (entries_of s.watched.values) s.spent in
    let low : l.atom < t.atoms = subst (λ (x : WatchedTrail). l.atom < x.trail.atoms) (sym c.self.view_is) c.requires.atom in
    let unset : IsUnset t.entries l.atom = subst (λ (x : WatchedTrail). IsUnset x.trail.entries l.atom) (sym c.self.view_is) c.requires.unset in
    let w : Watching = record { lists = s.watched.lists.items; pairs = s.watched.pairs.items; copies = s.attached.arena; loose = s.attached.loose.items; head = s.head; heads = s.heads.items } in
    let old : AreAttached (record { trail = t; watching = w }) clauses = subst (λ x. AreAttached x clauses) (sym c.self.view_is) a in
    let new = attached_implied t w l c.args.reason clauses c.self.invariant.1 (implied t l c.args.reason c.self.invariant.1 low unset) c.self.invariant.3 old in
    attached_as (with_implied t l c.args.reason) (trail_of (length c.put.new.self.entries.items) s.level (entries_of c.put.new.self) s.spent) w w clauses
    (trail_as (length c.put.new.self.entries.items) s.level (entries_of c.put.new.self) s.spent (with_implied t l c.args.reason) c.put.ensures.atoms refl c.put.ensures.entries refl) refl new
