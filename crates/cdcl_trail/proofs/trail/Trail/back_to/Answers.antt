use Rattle.std.proofs.Common.{◌≤◌, length, take, get_or, refl, sym, ap, ◌∙◌, subst, arith}
use Rattle.std.proofs.lemmas.List.{length-take}
use Rattle.cdcl_trail.specs.Attached.{Watching, WatchedTrail, AreAttached}
use Rattle.cdcl_trail.specs.Trail.{Trail, back_at}
use Rattle.cdcl_trail.specs.Values.{entries_of}
use Rattle.cdcl_trail.proofs.TrailLaws.{trail_of, back}
use Rattle.cdcl_trail.proofs.AttachedLaws.{attached_back, attached_as, trail_as}
use Rattle.cdcl_trail.proofs.trail.Trail.back_to.Goals as goal

pub invariant_of-self : goal.invariant_of-self
invariant_of-self c =
    let s = c.self.inside in
    let n = c.args.level in
    let t : Trail = trail_of (length s.watched.values.entries.items) s.level (entries_of s.watched.values) s.spent in
    let low : n ≤ t.level = subst (λ (x : WatchedTrail). n ≤ x.trail.level) (sym c.self.view_is) c.requires in (
      c.back_to.ensures.values,
      back t n (entries_of c.back_to.new.self) (length c.back_to.new.self.entries.items) s.spent c.self.invariant.1 low c.back_to.ensures.entries c.back_to.ensures.atoms,
      omega (arith, c.self.invariant.2, c.back_to.ensures.atoms),
      omega (arith, c.self.invariant.3, low, ap length c.restore-head.ensures.heads, length-take n s.heads.items),
      omega (arith, c.self.invariant.4, c.back_to.ensures.atoms, c.restore-head.ensures.capacity),
      c.self.invariant.5,
    )

pub returns-clause-attached : goal.returns-clause-attached
returns-clause-attached c clauses a =
    let s = c.self.inside in
    let n = c.args.level in
    let t : Trail = trail_of (length s.watched.values.entries.items) s.level (entries_of s.watched.values) s.spent in
    let low : n ≤ t.level = subst (λ (x : WatchedTrail). n ≤ x.trail.level) (sym c.self.view_is) c.requires in
    let w : Watching = record { lists = s.watched.lists.items; pairs = s.watched.pairs.items; copies = s.attached.arena; loose = s.attached.loose.items; head = s.head; heads = s.heads.items } in
    let old : AreAttached (record { trail = t; watching = w }) clauses = subst (λ x. AreAttached x clauses) (sym c.self.view_is) a in
    let new = attached_back t w n clauses low old in
    attached_as (back_at t n) (trail_of (length c.back_to.new.self.entries.items) n (entries_of c.back_to.new.self) s.spent)
    (record { lists = s.watched.lists.items; pairs = s.watched.pairs.items; copies = s.attached.arena; loose = s.attached.loose.items; head = get_or s.heads.items n s.head; heads = take n s.heads.items })
    (record { lists = s.watched.lists.items; pairs = s.watched.pairs.items; copies = s.attached.arena; loose = s.attached.loose.items; head = c.restore-head.result; heads = c.restore-head.new.heads.items }) clauses
    (trail_as (length c.back_to.new.self.entries.items) n (entries_of c.back_to.new.self) s.spent (back_at t n) c.back_to.ensures.atoms refl c.back_to.ensures.entries refl)
    (ap (λ h. record { lists = s.watched.lists.items; pairs = s.watched.pairs.items; copies = s.attached.arena; loose = s.attached.loose.items; head = h; heads = c.restore-head.new.heads.items }) c.restore-head.ensures.head
    ∙ ap (λ hs. record { lists = s.watched.lists.items; pairs = s.watched.pairs.items; copies = s.attached.arena; loose = s.attached.loose.items; head = get_or s.heads.items n s.head; heads = hs }) c.restore-head.ensures.heads) new
