use Rattle.std.proofs.Common.{◌++◌, ◌∷◌, [], length, refl, sym, ap, subst}
use Rattle.cdcl_trail.specs.Attached.{Watching, AreAttached}
use Rattle.cdcl_trail.specs.Trail.{Trail}
use Rattle.cdcl_trail.specs.Values.{entries_of}
use Rattle.cdcl_trail.proofs.TrailLaws.{trail_of}
use Rattle.cdcl_trail.proofs.AttachedLaws.{attached_as, attached_added}
use Rattle.cdcl_trail.proofs.trail.Trail.attach.Goals as goal

pub returns-in-Ok-clause-attached : goal.returns-in-Ok-clause-attached
returns-in-Ok-clause-attached c before after d adds a =
    let s = c.self.inside in
    let e = c.in-Ok.ensures in
    let t : Trail = trail_of (length s.watched.values.entries.items) s.level (entries_of s.watched.values) s.spent in
    let w : Watching = record { lists = s.watched.lists.items; pairs = s.watched.pairs.items; copies = s.attached.arena; loose = s.attached.loose.items; head = s.head; heads = s.heads.items } in
    let old : AreAttached (record { trail = t; watching = w }) before = subst (λ x. AreAttached x before) (sym c.self.view_is) a in
    let new = attached_added t w c.args.n d c.add_loose.new.pairs.items before after adds old e.longer c.add_loose.ensures.kept c.add_loose.ensures.size in
    attached_as t t
    (record { lists = s.watched.lists.items; pairs = c.add_loose.new.pairs.items; copies = s.attached.arena; loose = s.attached.loose.items ++ c.args.n ∷ []; head = s.head; heads = s.heads.items })
    (record { lists = s.watched.lists.items; pairs = c.add_loose.new.pairs.items; copies = s.attached.arena; loose = c.add_loose.new.loose.items; head = s.head; heads = s.heads.items }) after refl
    (ap (λ x. record { lists = s.watched.lists.items; pairs = c.add_loose.new.pairs.items; copies = s.attached.arena; loose = x; head = s.head; heads = s.heads.items }) e.loose) new
