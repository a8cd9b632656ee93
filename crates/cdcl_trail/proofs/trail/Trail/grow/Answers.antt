use Rattle.std.proofs.Common.{◌≡◌, ◌+◌, ◌≤◌, ◌++◌, ◌∷◌, [], true, length, refl, sym, ap, ◌∙◌, subst, arith}
use Rattle.std.proofs.lemmas.List.{length_push}
use Rattle.cdcl_trail.specs.Attached.{Watching, AreAttached}
use Rattle.cdcl_trail.specs.Trail.{Trail, with_atom}
use Rattle.cdcl_trail.specs.Values.{entries_of}
use Rattle.cdcl_trail.proofs.TrailLaws.{grown, trail_of, level_within}
use Rattle.cdcl_trail.proofs.ValuesLaws.{few_entries}
use Rattle.cdcl_trail.proofs.AttachedLaws.{attached_as, trail_as, attached_grown}
use Rattle.cdcl_trail.proofs.trail.Trail.grow.Goals as goal

pub grow_all-requires-clause-heads : goal.grow_all-requires-clause-heads
grow_all-requires-clause-heads c =
    let s = c.self.inside in
    let t : Trail = trail_of (length s.watched.values.entries.items) s.level (entries_of s.watched.values) s.spent in
    let within : s.level ≤ length (entries_of s.watched.values) = level_within t c.self.invariant.1 in
    let few : length (entries_of s.watched.values) ≤ length s.watched.values.entries.items = few_entries (entries_of s.watched.values) s.watched.values.entries.items c.self.invariant.0.by_atom in
    omega (arith, within, few, c.self.invariant.3)

pub invariant_of-self : goal.invariant_of-self
invariant_of-self c =
    let s = c.self.inside in
    let e = c.in-Ok.ensures in
    let t : Trail = trail_of (length s.watched.values.entries.items) s.level (entries_of s.watched.values) s.spent in
    let two : length c.grow_all.new.lists.items ≡ length s.watched.lists.items + 1 + 1 =
    ap length e.lists ∙ length_push (s.watched.lists.items ++ [] ∷ []) [] ∙ ap (λ n. n + 1) (length_push s.watched.lists.items []) in (
      e.values,
      grown t (length c.grow_all.new.values.entries.items) (entries_of c.grow_all.new.values) s.spent c.self.invariant.1 e.entries (omega (arith, e.atoms)),
      omega (arith, two, c.self.invariant.2, e.atoms),
      ap length e.heads ∙ c.self.invariant.3,
      e.capacity,
      c.self.invariant.5,
    )

pub invariant_of-self-in-Err : goal.invariant_of-self-in-Err
invariant_of-self-in-Err c =
    let s = c.self.inside in
    let e = c.in-Err.ensures in
    let t : Trail = trail_of (length s.watched.values.entries.items) s.level (entries_of s.watched.values) s.spent in (
      e.values,
      grown t (length c.grow_all.new.values.entries.items) (entries_of c.grow_all.new.values) true c.self.invariant.1 e.entries (omega (arith, e.err_atoms)),
      omega (arith, ap length e.err_lists, c.self.invariant.2, e.err_atoms),
      ap length e.heads ∙ c.self.invariant.3,
      e.capacity,
      c.self.invariant.5,
    )

pub returns-in-Ok-clause-attached : goal.returns-in-Ok-clause-attached
returns-in-Ok-clause-attached c clauses a =
    let s = c.self.inside in
    let e = c.in-Ok.ensures in
    let t : Trail = trail_of (length s.watched.values.entries.items) s.level (entries_of s.watched.values) s.spent in
    let w : Watching = record { lists = s.watched.lists.items; pairs = s.watched.pairs.items; copies = s.attached.arena; loose = s.attached.loose.items; head = s.head; heads = s.heads.items } in
    let old : AreAttached (record { trail = t; watching = w }) clauses = subst (λ x. AreAttached x clauses) (sym c.self.view_is) a in
    attached_as (with_atom t) (trail_of (length c.grow_all.new.values.entries.items) s.level (entries_of c.grow_all.new.values) s.spent)
    (record { lists = (s.watched.lists.items ++ [] ∷ []) ++ [] ∷ []; pairs = s.watched.pairs.items; copies = s.attached.arena; loose = s.attached.loose.items; head = s.head; heads = s.heads.items })
    (record { lists = c.grow_all.new.lists.items; pairs = s.watched.pairs.items; copies = s.attached.arena; loose = s.attached.loose.items; head = s.head; heads = c.grow_all.new.heads.items }) clauses
    (trail_as (length c.grow_all.new.values.entries.items) s.level (entries_of c.grow_all.new.values) s.spent (with_atom t) e.atoms refl e.entries refl)
    (ap (λ x. record { lists = x; pairs = s.watched.pairs.items; copies = s.attached.arena; loose = s.attached.loose.items; head = s.head; heads = c.grow_all.new.heads.items }) e.lists
    ∙ ap (λ x. record { lists = (s.watched.lists.items ++ [] ∷ []) ++ [] ∷ []; pairs = s.watched.pairs.items; copies = s.attached.arena; loose = s.attached.loose.items; head = s.head; heads = x }) e.heads)
    (attached_grown t w clauses old)
