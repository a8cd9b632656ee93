use Rattle.std.proofs.Common.{suc}
use Rattle.std.proofs.lemmas.Result.{IfOk-weaker}
use Rattle.term_bank.specs.Forest.{tree_at}
use Rattle.cert_values.specs.Values.{covered_of, saturation_of}
use Rattle.cert_check.specs.DueSteps.{AreNamed}
use Rattle.cert_inference.proofs.BoundTerms.{bound_terms}
use Rattle.cert_index.proofs.SelectedAtoms.{selected_atom}
use Rattle.cert_check.proofs.DueLaws.{apart_gives}
use Rattle.cert_check.proofs.PairScans.{general_here, closed_is_right, opposite_members}
use Rattle.cert_index.proofs.ApartLaws.{no_unifier, same_sign}
use Rattle.cert_inference.proofs.Signs.{signs_differ, signs_same}
use Rattle.cert_check.proofs.covering.cover_pair.Goals as goal

pub returns-then-l-m-clause-gives : goal.returns-then-l-m-clause-gives
returns-then-l-m-clause-gives c e =
    let old = c.args.cert.now in
    apart_gives (saturation_of old.cert) (suc c.args.i) (suc c.args.j)
    (same_sign old.cert c.args.i c.args.j c.requires.left c.selected-l.result.now c.selected-m.result.now c.selected-l.ensures c.selected-m.ensures (signs_same c.selected-l.result.now.positive c.selected-m.result.now.positive c.if-l-m.true)) (AreNamed (covered_of old))

pub returns-then-not-branch-clause-gives : goal.returns-then-not-branch-clause-gives
returns-then-not-branch-clause-gives c e =
    let old = c.args.cert.now in
    apart_gives (saturation_of old.cert) (suc c.args.i) (suc c.args.j)
    (no_unifier old.cert c.args.i c.args.j c.requires.left c.selected-l.result.now c.selected-m.result.now c.selected-l.ensures c.selected-m.ensures (c.in_ok-unify.ensures.no c.if-not-branch.true)) (AreNamed (covered_of old))

pub cover_meeting-requires-clause-terms : goal.cover_meeting-requires-clause-terms
cover_meeting-requires-clause-terms c =
    let old = c.args.cert.now.cert in
    let l = c.selected-l.result.now in
    let m = c.selected-m.result.now in
    let (s, resolved, general) = c.in_ok-unify.ensures.yes c.if-not-branch.false in
    bound_terms old.base.bank c.unify.new.self.entries (tree_at old.base.bank l.atom) (tree_at old.base.bank m.atom)
    (selected_atom old c.requires.ready.whole (suc c.args.i) l c.selected-l.ensures) (selected_atom old c.requires.ready.whole (suc c.args.j) m c.selected-m.ensures) s resolved general

pub returns-clause-right : goal.returns-clause-right
returns-clause-right c =
    let old = c.args.cert.now.cert in
    let l = c.selected-l.result.now in
    let m = c.selected-m.result.now in
    let (s, resolved, general) = c.in_ok-unify.ensures.yes c.if-not-branch.false in
    let left = c.selected-l.ensures in
    let right = c.selected-m.ensures in
    IfOk-weaker c.cover_meeting.result _ _
    (λ r h. closed_is_right old c.args.i c.args.j c.requires.left l m left right (signs_differ l.positive m.positive c.if-l-m.false) s general r
    (h s resolved left.member right.member left.is right.is (general_here old c.args.i c.args.j c.requires.left l m left right s general)))
    c.cover_meeting.ensures.closed

pub returns-clause-gives : goal.returns-clause-gives
returns-clause-gives c =
    let old = c.args.cert.now.cert in
    let l = c.selected-l.result.now in
    let m = c.selected-m.result.now in
    let (s, resolved, general) = c.in_ok-unify.ensures.yes c.if-not-branch.false in
    let left = c.selected-l.ensures in
    let right = c.selected-m.ensures in
    IfOk-weaker c.cover_meeting.result _ _
    (λ r h e. h e s resolved left.member right.member left.is right.is (opposite_members old c.args.i c.args.j c.requires.left l m left right (signs_differ l.positive m.positive c.if-l-m.false))
    (general_here old c.args.i c.args.j c.requires.left l m left right s general))
    c.cover_meeting.ensures.gives
