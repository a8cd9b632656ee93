use Rattle.std.proofs.Common.{◌≡◌, ◌≢◌, ℕ, length, map, refl, sym, ap, ◌∙◌, subst, arith}
use Rattle.std.specs.Vec.{with_items}
use Rattle.std.proofs.lemmas.List.{with_items_is, length-map}
use Rattle.cdcl_trail.specs.Detach.{IsUnwatchedAll, unpassed}
use Rattle.cdcl_trail.specs.Watch.{AreWatched, pair_at}
use Rattle.cdcl_trail.specs.declared.watch.Head.{Head}
use Rattle.cdcl_trail.proofs.DetachLaws.{attached_detached, unpassed_at}
use Rattle.cdcl_trail.specs.Attached.{Watching, AreAttached}
use Rattle.cdcl_trail.specs.Trail.{Trail}
use Rattle.cdcl_trail.specs.Values.{entries_of}
use Rattle.cdcl_trail.proofs.TrailLaws.{trail_of}
use Rattle.cdcl_trail.proofs.AttachedLaws.{attached_as}
use Rattle.cdcl_trail.proofs.trail.Trail.detach.Goals as goal

pub invariant_of-self : goal.invariant_of-self
invariant_of-self c =
    let s = c.self.inside in
    let refill = with_items s.watched.lists c.unwatch.new.lists in (
      c.self.invariant.0,
      c.self.invariant.1,
      omega (arith, refill.ok.0, s.watched.lists.ok.0, c.self.invariant.2),
      ap length c.unpass_all.ensures.heads ∙ length-map s.heads.items unpassed ∙ c.self.invariant.3,
      omega (arith, c.self.invariant.4, c.unpass_all.ensures.capacity),
      omega (arith, c.self.invariant.5, c.forget_loose.ensures.short),
    )

pub returns-clause-attached : goal.returns-clause-attached
returns-clause-attached c before after removes a =
    let s = c.self.inside in
    let n = c.args.n in
    let t : Trail = trail_of (length s.watched.values.entries.items) s.level (entries_of s.watched.values) s.spent in
    let w : Watching = record { lists = s.watched.lists.items; pairs = s.watched.pairs.items; copies = s.attached.arena; loose = s.attached.loose.items; head = s.head; heads = s.heads.items } in
    let old : AreAttached (record { trail = t; watching = w }) before = subst (λ x. AreAttached x before) (sym c.self.view_is) a in
    let e = c.unwatch.ensures in
    let few : length c.unwatch.new.lists ≡ s.watched.lists.len = omega (arith, e.size, ap length c.deref_mut.ensures.value, s.watched.lists.ok.0) in
    let room : length c.unwatch.new.pairs ≡ s.watched.pairs.len = omega (arith, e.room, ap length c.deref_mut-2.ensures.value, s.watched.pairs.ok.0) in
    let ls = with_items_is s.watched.lists c.unwatch.new.lists few in
    let ps = with_items_is s.watched.pairs c.unwatch.new.pairs room in
    let watched : AreWatched before c.deref_mut.result.now c.deref_mut-2.result.now =
    subst (λ x. AreWatched before x c.deref_mut-2.result.now) (sym c.deref_mut.ensures.value) (subst (AreWatched before s.watched.lists.items) (sym c.deref_mut-2.ensures.value) old.watched) in
    let all : IsUnwatchedAll n s.watched.lists.items c.unwatch.new.lists = subst (λ x. IsUnwatchedAll n x c.unwatch.new.lists) c.deref_mut.ensures.value (e.lists before watched) in
    let others : (m : ℕ) → m ≢ n → pair_at c.unwatch.new.pairs m ≡ pair_at s.watched.pairs.items m = λ m f. e.others m f ∙ ap (λ x. pair_at x m) c.deref_mut-2.ensures.value in
    let new : Watching = record { lists = c.unwatch.new.lists; pairs = c.unwatch.new.pairs; copies = c.remove.new.self; loose = c.forget_loose.new.loose.items; head = unpassed s.head; heads = map unpassed s.heads.items } in
    let done = attached_detached t w new n before after removes c.remove.ensures old e.none others (e.room ∙ ap length c.deref_mut-2.ensures.value) all.others all.gone all.old_ones
    c.forget_loose.ensures.gone c.forget_loose.ensures.kept c.forget_loose.ensures.old
    (λ k. ap (λ (h : Head). h.place) (unpassed_at s.heads.items s.head k)) (λ k. ap (λ (h : Head). h.passed) (unpassed_at s.heads.items s.head k)) in
    attached_as t t new
    (record { lists = (with_items s.watched.lists c.unwatch.new.lists).items; pairs = (with_items s.watched.pairs c.unwatch.new.pairs).items; copies = c.remove.new.self; loose = c.forget_loose.new.loose.items; head = unpassed s.head; heads = c.unpass_all.new.heads.items })
    after refl
    (ap (λ x. record { lists = x; pairs = (with_items s.watched.pairs c.unwatch.new.pairs).items; copies = c.remove.new.self; loose = c.forget_loose.new.loose.items; head = unpassed s.head; heads = c.unpass_all.new.heads.items }) ls
    ∙ ap (λ x. record { lists = c.unwatch.new.lists; pairs = x; copies = c.remove.new.self; loose = c.forget_loose.new.loose.items; head = unpassed s.head; heads = c.unpass_all.new.heads.items }) ps
    ∙ ap (λ x. record { lists = c.unwatch.new.lists; pairs = c.unwatch.new.pairs; copies = c.remove.new.self; loose = c.forget_loose.new.loose.items; head = unpassed s.head; heads = x }) c.unpass_all.ensures.heads) done
