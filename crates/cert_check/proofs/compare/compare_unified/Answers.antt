use Rattle.std.proofs.Common.{suc, refl}
use Rattle.std.proofs.lemmas.Result.{IfOk-weaker}
use Rattle.term_bank.specs.Forest.{tree_at}
use Rattle.cert_values.specs.Values.{covered_of, saturation_of}
use Rattle.cert_check.specs.DueSteps.{AreCompared}
use Rattle.cert_inference.proofs.BoundTerms.{bound_terms}
use Rattle.cert_index.proofs.SelectedAtoms.{selected_atom}
use Rattle.cert_check.proofs.DueLaws.{apart_gives}
use Rattle.cert_check.proofs.PairScans.{apart_is_proper, general_here, opposite_members, proper_pair}
use Rattle.cert_index.proofs.ApartLaws.{no_unifier, same_sign}
use Rattle.cert_inference.proofs.Signs.{signs_differ, signs_same}
use Rattle.cert_check.proofs.compare.compare_unified.Goals as goal

pub returns-then-l-m-clause-proper : goal.returns-then-l-m-clause-proper
returns-then-l-m-clause-proper c =
    let old = c.args.cert.now in
    let far = same_sign old.cert c.args.i c.args.j c.requires.left c.selected-l.result.now c.selected-m.result.now c.selected-l.ensures c.selected-m.ensures (signs_same c.selected-l.result.now.positive c.selected-m.result.now.positive c.if-l-m.true) in
    ((λ t. apart_is_proper (saturation_of old.cert) (suc c.args.i) (suc c.args.j) far), (λ h. refl))

pub returns-then-l-m-clause-gives : goal.returns-then-l-m-clause-gives
returns-then-l-m-clause-gives c e =
    let old = c.args.cert.now in
    apart_gives (saturation_of old.cert) (suc c.args.i) (suc c.args.j)
    (same_sign old.cert c.args.i c.args.j c.requires.left c.selected-l.result.now c.selected-m.result.now c.selected-l.ensures c.selected-m.ensures (signs_same c.selected-l.result.now.positive c.selected-m.result.now.positive c.if-l-m.true)) (AreCompared (covered_of old) c.args.progress.now)

pub returns-then-not-branch-clause-proper : goal.returns-then-not-branch-clause-proper
returns-then-not-branch-clause-proper c =
    let old = c.args.cert.now in
    let far = no_unifier old.cert c.args.i c.args.j c.requires.left c.selected-l.result.now c.selected-m.result.now c.selected-l.ensures c.selected-m.ensures (c.in_ok-unify.ensures.no c.if-not-branch.true) in
    ((λ t. apart_is_proper (saturation_of old.cert) (suc c.args.i) (suc c.args.j) far), (λ h. refl))

pub returns-then-not-branch-clause-gives : goal.returns-then-not-branch-clause-gives
returns-then-not-branch-clause-gives c e =
    let old = c.args.cert.now in
    apart_gives (saturation_of old.cert) (suc c.args.i) (suc c.args.j)
    (no_unifier old.cert c.args.i c.args.j c.requires.left c.selected-l.result.now c.selected-m.result.now c.selected-l.ensures c.selected-m.ensures (c.in_ok-unify.ensures.no c.if-not-branch.true)) (AreCompared (covered_of old) c.args.progress.now)

pub compare_meeting-requires-clause-terms : goal.compare_meeting-requires-clause-terms
compare_meeting-requires-clause-terms c =
    let old = c.args.cert.now.cert in
    let l = c.selected-l.result.now in
    let m = c.selected-m.result.now in
    let (s, resolved, general) = c.in_ok-unify.ensures.yes c.if-not-branch.false in
    bound_terms old.base.bank c.unify.new.self.entries (tree_at old.base.bank l.atom) (tree_at old.base.bank m.atom)
    (selected_atom old c.requires.comparable.whole.cert (suc c.args.i) l c.selected-l.ensures) (selected_atom old c.requires.comparable.whole.cert (suc c.args.j) m c.selected-m.ensures) s resolved general

pub returns-clause-proper : goal.returns-clause-proper
returns-clause-proper c =
    let old = c.args.cert.now.cert in
    let l = c.selected-l.result.now in
    let m = c.selected-m.result.now in
    let (s, resolved, general) = c.in_ok-unify.ensures.yes c.if-not-branch.false in
    IfOk-weaker c.compare_meeting.result _ _
    (λ r h. proper_pair old c.args.i c.args.j c.requires.left l m c.selected-l.ensures c.selected-m.ensures (signs_differ l.positive m.positive c.if-l-m.false) s general r (h s resolved (tree_at old.base.bank l.atom) (tree_at old.base.bank m.atom) general))
    c.compare_meeting.ensures.proper

pub returns-clause-gives : goal.returns-clause-gives
returns-clause-gives c =
    let old = c.args.cert.now.cert in
    let l = c.selected-l.result.now in
    let m = c.selected-m.result.now in
    let (s, resolved, general) = c.in_ok-unify.ensures.yes c.if-not-branch.false in
    let left = c.selected-l.ensures in
    let right = c.selected-m.ensures in
    IfOk-weaker c.compare_meeting.result _ _
    (λ r h e. h e s resolved left.member right.member left.is right.is (opposite_members old c.args.i c.args.j c.requires.left l m left right (signs_differ l.positive m.positive c.if-l-m.false))
    (general_here old c.args.i c.args.j c.requires.left l m left right s general))
    c.compare_meeting.ensures.gives
