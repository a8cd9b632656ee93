use Rattle.std.proofs.Common.{◌≡◌, true, false, length, take, refl, sym, ap, ◌∙◌, subst, arith}
use Rattle.std.proofs.lemmas.List.{length-map}
use Rattle.cdcl_trail.specs.Running.{at_level}
use Rattle.cdcl_trail.specs.Attached.{Watching, AreAttached}
use Rattle.cdcl_trail.specs.Trail.{Trail, IsTrail}
use Rattle.cdcl_trail.specs.Values.{entries_of, entry_at}
use Rattle.cdcl_trail.proofs.TrailLaws.{trail_of}
use Rattle.cdcl_trail.proofs.AttachedLaws.{attached_propagated, attached_as, trail_as, settled_present, spent_trail}
use Rattle.cdcl_trail.proofs.trail.Trail.propagate.Goals as goal

pub saturate-found-requires-clause-loose : goal.saturate-found-requires-clause-loose
saturate-found-requires-clause-loose c =
    let s = c.self.inside in
    let t : Trail = trail_of (length s.watched.values.entries.items) s.level (entries_of s.watched.values) s.spent in
    let w : Watching = record { lists = s.watched.lists.items; pairs = s.watched.pairs.items; copies = s.attached.arena; loose = s.attached.loose.items; head = s.head; heads = s.heads.items } in
    let old : AreAttached (record { trail = t; watching = w }) c.args.clauses.now = subst (λ x. AreAttached x c.args.clauses.now) (sym c.self.view_is) c.requires.attached in
    let now = settled_present t w c.args.clauses.now c.self.invariant.1 c.self.invariant.3 old in
    record { room = old.room; all = old.loose; there = old.there; seen = now.seen; low = now.passed }

pub saturate-found-requires-clause-head : goal.saturate-found-requires-clause-head
saturate-found-requires-clause-head c =
    let s = c.self.inside in
    let t : Trail = trail_of (length s.watched.values.entries.items) s.level (entries_of s.watched.values) s.spent in
    let w : Watching = record { lists = s.watched.lists.items; pairs = s.watched.pairs.items; copies = s.attached.arena; loose = s.attached.loose.items; head = s.head; heads = s.heads.items } in
    let old : AreAttached (record { trail = t; watching = w }) c.args.clauses.now = subst (λ x. AreAttached x c.args.clauses.now) (sym c.self.view_is) c.requires.attached in
    let now = settled_present t w c.args.clauses.now c.self.invariant.1 c.self.invariant.3 old in
    now.place

pub saturate-found-requires-clause-copies : goal.saturate-found-requires-clause-copies
saturate-found-requires-clause-copies c =
    let s = c.self.inside in
    let t : Trail = trail_of (length s.watched.values.entries.items) s.level (entries_of s.watched.values) s.spent in
    let w : Watching = record { lists = s.watched.lists.items; pairs = s.watched.pairs.items; copies = s.attached.arena; loose = s.attached.loose.items; head = s.head; heads = s.heads.items } in
    let old : AreAttached (record { trail = t; watching = w }) c.args.clauses.now = subst (λ x. AreAttached x c.args.clauses.now) (sym c.self.view_is) c.requires.attached in
    old.copies

pub saturate-found-requires-clause-settled : goal.saturate-found-requires-clause-settled
saturate-found-requires-clause-settled c =
    let s = c.self.inside in
    let t : Trail = trail_of (length s.watched.values.entries.items) s.level (entries_of s.watched.values) s.spent in
    let w : Watching = record { lists = s.watched.lists.items; pairs = s.watched.pairs.items; copies = s.attached.arena; loose = s.attached.loose.items; head = s.head; heads = s.heads.items } in
    let old : AreAttached (record { trail = t; watching = w }) c.args.clauses.now = subst (λ x. AreAttached x c.args.clauses.now) (sym c.self.view_is) c.requires.attached in
    let now = settled_present t w c.args.clauses.now c.self.invariant.1 c.self.invariant.3 old in
    now.settled

pub returns-in-Ok-clause-attached : goal.returns-in-Ok-clause-attached
returns-in-Ok-clause-attached c =
    let s = c.self.inside in
    let t : Trail = trail_of (length s.watched.values.entries.items) s.level (entries_of s.watched.values) s.spent in
    let w : Watching = record { lists = s.watched.lists.items; pairs = s.watched.pairs.items; copies = s.attached.arena; loose = s.attached.loose.items; head = s.head; heads = s.heads.items } in
    let old : AreAttached (record { trail = t; watching = w }) c.args.clauses.now = subst (λ x. AreAttached x c.args.clauses.now) (sym c.self.view_is) c.requires.attached in
    let now = settled_present t w c.args.clauses.now c.self.invariant.1 c.self.invariant.3 old in
    let e = c.in-Ok.ensures in
    let f = c.saturate-found.new in
    let v' = f.watched.values in
    let same : at_level s.level s.watched.values ≡ t = trail_as (length s.watched.values.entries.items) s.level (entries_of s.watched.values) false t refl refl refl (sym c.if-self.false) in
    let before : AreAttached (record { trail = at_level s.level s.watched.values; watching = w }) c.args.clauses.now = attached_as t (at_level s.level s.watched.values) w w c.args.clauses.now same refl old in
    let new = attached_propagated s.watched.values v' s.level s.watched.lists.items f.watched.lists.items s.watched.pairs.items f.watched.pairs.items s.attached.arena f.attached.arena s.attached.loose.items f.attached.loose.items s.head f.head s.heads.items c.args.clauses.now
    c.self.invariant.3 before e.running e.runs e.loose e.front e.on e.head e.settled e.copies in
    let is : Watching = record { lists = f.watched.lists.items; pairs = f.watched.pairs.items; copies = f.attached.arena; loose = f.attached.loose.items; head = f.head; heads = s.heads.items } in
    attached_as (at_level s.level v') (trail_of (length v'.entries.items) s.level (entries_of v') s.spent) is is c.args.clauses.now
    (trail_as (length v'.entries.items) s.level (entries_of v') s.spent (at_level s.level v') refl refl refl c.if-self.false) refl new

pub invariant_of-self-in-Err : goal.invariant_of-self-in-Err
invariant_of-self-in-Err c =
    let s = c.self.inside in
    let t : Trail = trail_of (length s.watched.values.entries.items) s.level (entries_of s.watched.values) s.spent in
    let v' = c.saturate-found.new.watched.values in
    let atoms : length c.undo_to.new.self.entries.items ≡ length s.watched.values.entries.items = c.undo_to.ensures.atoms ∙ c.saturate-found.ensures.added.atoms in
    let count : c.len-before.result ≡ length (entries_of s.watched.values) = omega (arith, length-map s.watched.values.literals.items (entry_at s.watched.values.entries.items), s.watched.values.literals.ok.0, c.len-before.ensures) in
    let back_again : entries_of c.undo_to.new.self ≡ entries_of s.watched.values = c.undo_to.ensures.entries ∙ ap (λ n. take n (entries_of v')) count ∙ c.saturate-found.ensures.added.kept in (
      c.undo_to.ensures.values,
      subst (λ x. IsTrail x) (sym (trail_as (length c.undo_to.new.self.entries.items) s.level (entries_of c.undo_to.new.self) true (trail_of (length s.watched.values.entries.items) s.level (entries_of s.watched.values) true) atoms refl back_again refl)) (spent_trail t c.self.invariant.1),
      omega (arith, c.saturate-found.ensures.size, c.self.invariant.2, atoms),
      c.self.invariant.3,
      omega (arith, c.self.invariant.4, atoms),
      omega (arith, c.self.invariant.5, c.saturate-found.ensures.short),
    )
