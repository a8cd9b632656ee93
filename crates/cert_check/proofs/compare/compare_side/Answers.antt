use Rattle.std.proofs.Common.{◌∙◌, ◌<◌, ◌≤◌, length, sym, ap, subst, List, [], ◌∷◌}
use Rattle.cert_values.specs.declared.certificate.Cover.{Cover}
use Rattle.cert_values.specs.declared.certificate.Covered.{Covered}
use Rattle.cert_values.specs.Values.{covered_of, saturation_of}
use Rattle.cert_check.specs.DueSteps.{AreCompared, due_of}
use Rattle.cert_check.proofs.Closings.{proper_there, not_proper_there, proper_on, not_proper_on}
use Rattle.cert_check.proofs.CoverGrowth.{counted_kept}
use Rattle.cert_check.proofs.DueLaws.{more_after_wrong, side_gives_none, side_gives_one, step_compared, step_counted}
use Rattle.cert_check.proofs.compare.compare_side.Goals as goal

pub returns-then-not-proper-clause-gives : goal.returns-then-not-proper-clause-gives
returns-then-not-proper-clause-gives c =
    let cert = c.args.cert.now in
    side_gives_none (saturation_of cert.cert) cert.cert.base.bank c.args.rooms.now.bindings.entries c.args.due.side c.args.due.own c.args.due.other
    (λ s resolved m n g. not_proper_there cert.cert.base.bank c.args.rooms.now.bindings.entries c.args.due.side (c.proper.ensures.no c.if-not-proper.true) m.selected.atom n.selected.atom s resolved g) (AreCompared (covered_of cert) c.args.progress.now)

pub returns-then-not-proper-clause-proper : goal.returns-then-not-proper-clause-proper
returns-then-not-proper-clause-proper c = not_proper_on c.args.cert.now.cert.base.bank c.args.rooms.now.bindings.entries c.args.due.side (c.proper.ensures.no c.if-not-proper.true)

pub returns-then-progress-clause-proper : goal.returns-then-progress-clause-proper
returns-then-progress-clause-proper c = proper_on c.args.cert.now.cert.base.bank c.args.rooms.now.bindings.entries c.args.due.side (c.proper.ensures.yes c.if-not-proper.false)

pub returns-clause-proper : goal.returns-clause-proper
returns-clause-proper c = proper_on c.args.cert.now.cert.base.bank c.args.rooms.now.bindings.entries c.args.due.side (c.proper.ensures.yes c.if-not-proper.false)

pub returns-then-progress-clause-gives : goal.returns-then-progress-clause-gives
returns-then-progress-clause-gives c =
    let cert = c.args.cert.now in
    let v = covered_of cert in
    let p = c.args.progress.now in
    side_gives_one (saturation_of cert.cert) cert.cert.base.bank c.args.rooms.now.bindings.entries c.args.due.side c.args.due.own c.args.due.other
    (λ s resolved m n g. proper_there cert.cert.base.bank c.args.rooms.now.bindings.entries c.args.due.side (c.proper.ensures.yes c.if-not-proper.false) m.selected.atom n.selected.atom s resolved g) (AreCompared v p) (AreCompared v p)
    (λ s resolved m n sel there g ds h. more_after_wrong v p ds h c.if-progress.true (due_of c.args.due.side c.args.due.own c.args.due.other m s ∷ []))

pub returns-in_err-right-clause-counted : goal.returns-in_err-right-clause-counted
returns-in_err-right-clause-counted c = counted_kept c.args.cert.now c.is_right_cover.new.cert c.is_right_cover.ensures.kept c.args.progress.now.count c.requires.counted

pub note-requires : goal.note-requires
note-requires c e =
    let less = c.in_ok-right.ensures.within e in
    let kept = ap (λ (x : Covered). x.covers) c.is_right_cover.ensures.kept.rest in
    subst (λ (vs : List Cover). c.args.progress.now.count < length vs) (sym (c.as_slice.ensures ∙ kept)) less

pub returns-clause-counted : goal.returns-clause-counted
returns-clause-counted c =
    let kept = ap (λ (x : Covered). x.covers) c.is_right_cover.ensures.kept.rest in
    subst (λ (vs : List Cover). c.note.new.progress.count ≤ length vs) (sym kept)
    (step_counted c.args.progress.now c.note.new.progress (length c.args.cert.now.covers) c.requires.counted c.in_ok-right.right c.in_ok-right.ensures.within c.note.ensures.yes c.note.ensures.no)

pub returns-clause-gives : goal.returns-clause-gives
returns-clause-gives c =
    let cert = c.args.cert.now in
    let v = covered_of cert in
    let p = c.args.progress.now in
    let q = c.note.new.progress in
    side_gives_one (saturation_of cert.cert) cert.cert.base.bank c.args.rooms.now.bindings.entries c.args.due.side c.args.due.own c.args.due.other
    (λ s resolved m n g. proper_there cert.cert.base.bank c.args.rooms.now.bindings.entries c.args.due.side (c.proper.ensures.yes c.if-not-proper.false) m.selected.atom n.selected.atom s resolved g) (AreCompared v p) (AreCompared v q)
    (λ s resolved m n sel there g ds h. step_compared v p q ds h c.if-progress.false (due_of c.args.due.side c.args.due.own c.args.due.other m s) c.in_ok-right.right (c.in_ok-right.ensures.right s resolved m n sel there g) c.note.ensures.yes c.note.ensures.no)
