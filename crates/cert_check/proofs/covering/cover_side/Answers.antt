use Rattle.std.proofs.Common.{◌++◌, ◌∷◌, [], suc, subst, true, false, Option}
use Rattle.std.specs.Prelude.{IfNone, IfSome}
use Rattle.cert_values.specs.Values.{covered_of, saturation_of}
use Rattle.cert_check.specs.Closings.{IsSideCovered}
use Rattle.cert_check.specs.DueSteps.{AreNamed, due_of}
use Rattle.cert_check.specs.Names.{NamesSide}
use Rattle.cert_check.specs.declared.naming.Named.{Named}
use Rattle.cert_check.proofs.Closings.{side_not_proper, side_proper, proper_there, not_proper_there}
use Rattle.cert_check.proofs.DueLaws.{side_gives_none, side_gives_one}
use Rattle.cert_check.proofs.NameLaws.{cover_added, cover_added_whole, due_covered, pushed_cover, pushed_names}
use Rattle.cert_check.proofs.covering.cover_side.Goals as goal

pub returns-then-not-proper-clause-closed : goal.returns-then-not-proper-clause-closed
returns-then-not-proper-clause-closed c = side_not_proper c.args.cert.now.cert c.args.room.now.pair.bindings.entries c.args.due.side (suc c.args.due.own) (suc c.args.due.other) (c.proper.ensures.no c.if-not-proper.true)

pub returns-then-not-proper-clause-gives : goal.returns-then-not-proper-clause-gives
returns-then-not-proper-clause-gives c e =
    let cert = c.args.cert.now in
    side_gives_none (saturation_of cert.cert) cert.cert.base.bank c.args.room.now.pair.bindings.entries c.args.due.side c.args.due.own c.args.due.other
    (λ s resolved m n g. not_proper_there cert.cert.base.bank c.args.room.now.pair.bindings.entries c.args.due.side (c.proper.ensures.no c.if-not-proper.true) m.selected.atom n.selected.atom s resolved g) (AreNamed (covered_of cert))

pub returns-in-None-clause-closed : goal.returns-in-None-clause-closed
returns-in-None-clause-closed c =
    let cert = c.args.cert.now in
    side_proper cert.cert c.args.room.now.pair.bindings.entries c.args.due.side (suc c.args.due.own) (suc c.args.due.other) (c.proper.ensures.yes c.if-not-proper.false) false
    (subst (λ (o : Option Named). IfNone o (IsSideCovered cert.cert c.args.room.now.pair.bindings.entries c.args.due.side (suc c.args.due.own) false)) c.in-None.is c.in_ok-find_side.ensures.none)

pub returns-in_ok-push_cover-in-Some-clause-whole : goal.returns-in_ok-push_cover-in-Some-clause-whole
returns-in_ok-push_cover-in-Some-clause-whole c =
    let cert = c.args.cert.now in
    let s = c.find_side.new.cert in
    let d = c.in-Some.named in
    let names = subst (λ (o : Option Named). IfSome o (NamesSide cert.cert s c.args.room.now.pair.bindings.entries c.args.due.side (suc c.args.due.own))) c.in-Some.is c.in_ok-find_side.ensures.some in
    pushed_cover cert s c.push_cover.new.covers _ c.in_ok-push_cover-in-Some.ensures (cover_added_whole cert s c.requires.whole c.find_side.ensures.kept c.in_ok-find_side.ensures.whole _ (record { clause = names.clause; by = names.by }))

pub returns-in_ok-push_cover-in-Some-clause-closed : goal.returns-in_ok-push_cover-in-Some-clause-closed
returns-in_ok-push_cover-in-Some-clause-closed c =
    let cert = c.args.cert.now in
    side_proper cert.cert c.args.room.now.pair.bindings.entries c.args.due.side (suc c.args.due.own) (suc c.args.due.other) (c.proper.ensures.yes c.if-not-proper.false) true
    (subst (λ (o : Option Named). IfSome o (λ _. IsSideCovered cert.cert c.args.room.now.pair.bindings.entries c.args.due.side (suc c.args.due.own) true)) c.in-Some.is c.in_ok-find_side.ensures.covered)

pub returns-in_ok-push_cover-in-Some-clause-gives : goal.returns-in_ok-push_cover-in-Some-clause-gives
returns-in_ok-push_cover-in-Some-clause-gives c e =
    let cert = c.args.cert.now in
    let x = c.args.due.side in
    let es = c.args.room.now.pair.bindings.entries in
    let s = c.find_side.new.cert in
    let names = subst (λ (o : Option Named). IfSome o (NamesSide cert.cert s es x (suc c.args.due.own))) c.in-Some.is c.in_ok-find_side.ensures.some in
    side_gives_one (saturation_of cert.cert) cert.cert.base.bank es x c.args.due.own c.args.due.other
    (λ u resolved m n g. proper_there cert.cert.base.bank es x (c.proper.ensures.yes c.if-not-proper.false) m.selected.atom n.selected.atom u resolved g) (AreNamed (covered_of cert)) (AreNamed (covered_of (record cert { cert = s; covers = c.push_cover.new.covers })))
    (λ u resolved m n sel there g ds named.
    pushed_names cert s c.push_cover.new.covers _ (ds ++ due_of x c.args.due.own c.args.due.other m u ∷ []) c.in_ok-push_cover-in-Some.ensures
    (cover_added cert s c.requires.whole c.find_side.ensures.kept _ ds (due_of x c.args.due.own c.args.due.other m u) named
    (due_covered cert.cert s es x c.args.due.own c.args.due.other c.in-Some.named names u resolved m sel)))
