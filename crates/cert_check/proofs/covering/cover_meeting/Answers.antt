use Rattle.std.proofs.Common.{suc, subst, sym}
use Rattle.std.proofs.lemmas.Result.{IfOk-weaker}
use Rattle.unify_core.specs.Bindings.{Bound_list}
use Rattle.unify_core.specs.Chains.{AreBindings}
use Rattle.unify_core.specs.Terms.{AreTerms}
use Rattle.unify_core.specs.declared.side.Side.TheVariants.{Right}
use Rattle.unify_core.proofs.Stays.{bindings_stay}
use Rattle.clause_form.proofs.Concluded.{terms_later}
use Rattle.clause_form.proofs.Leaves.{resolved_later}
use Rattle.cert_values.specs.Values.{covered_of, saturation_of}
use Rattle.cert_check.specs.Closings.{IsSideClosed}
use Rattle.cert_check.specs.DueSteps.{AreNamed, GivesSide}
use Rattle.cert_check.proofs.ReadyLaws.{ready_kept}
use Rattle.cert_check.proofs.Closings.{open_left, both_sides, side_before}
use Rattle.cert_check.proofs.DueLaws.{meeting_gives, side_of_same}
use Rattle.cert_check.proofs.Saturations.{saturation_same}
use Rattle.cert_check.proofs.covering.cover_meeting.Goals as goal

pub returns-then-not-branch-clause-closed : goal.returns-then-not-branch-clause-closed
returns-then-not-branch-clause-closed c =
    open_left c.args.cert.now.cert c.args.room.now.pair.bindings.entries (suc c.args.i) (suc c.args.j) c.in_ok-cover_side.field-0 c.if-not-branch.true c.in_ok-cover_side.ensures.closed

pub cover_side-requires-2-clause-ready : goal.cover_side-requires-2-clause-ready
cover_side-requires-2-clause-ready c = ready_kept c.args.cert.now.cert c.cover_side.new.cert.cert c.args.lookup.now c.requires.ready c.cover_side.ensures.kept.cert c.in_ok-cover_side.ensures.whole.cert

pub cover_side-requires-2-clause-bindings : goal.cover_side-requires-2-clause-bindings
cover_side-requires-2-clause-bindings c =
    let g = c.cover_side.new.cert.cert.base.bank in
    subst (λ (b : Bound_list). AreBindings g b.entries) (sym c.cover_side.ensures.bindings) (bindings_stay c.args.cert.now.cert.base.bank g c.args.room.now.pair.bindings.entries c.cover_side.ensures.kept.cert.base.bank c.requires.bindings)

pub cover_side-requires-2-clause-terms : goal.cover_side-requires-2-clause-terms
cover_side-requires-2-clause-terms c =
    let g = c.cover_side.new.cert.cert.base.bank in
    subst (λ (b : Bound_list). AreTerms g b.entries) (sym c.cover_side.ensures.bindings) (terms_later c.args.cert.now.cert.base.bank g c.args.room.now.pair.bindings.entries c.cover_side.ensures.kept.cert.base.bank c.requires.bindings c.requires.terms)

pub returns-clause-closed : goal.returns-clause-closed
returns-clause-closed c =
    let old = c.args.cert.now.cert in
    let es = c.args.room.now.pair.bindings.entries in
    IfOk-weaker c.cover_side-2.result _ _ (λ r h.
    both_sides old es (suc c.args.i) (suc c.args.j) c.is_proper.result c.in_ok-cover_side.field-0 r c.if-not-is_proper.false c.if-not-branch.false c.is_proper.ensures c.in_ok-cover_side.ensures.closed
    (side_before old c.cover_side.new.cert.cert c.requires.ready.whole c.cover_side.ensures.kept.cert es c.requires.bindings Right (suc c.args.j) (suc c.args.i) r
    (subst (λ (b : Bound_list). IsSideClosed c.cover_side.new.cert.cert b.entries Right (suc c.args.j) (suc c.args.i) r) c.cover_side.ensures.bindings h))) c.cover_side-2.ensures.closed

pub returns-clause-gives : goal.returns-clause-gives
returns-clause-gives c =
    let old = c.args.cert.now in
    let mid = c.cover_side.new.cert in
    let new = c.cover_side-2.new.cert in
    let es = c.args.room.now.pair.bindings.entries in
    let f = old.cert.base.bank in
    let g = mid.cert.base.bank in
    IfOk-weaker c.cover_side-2.result _ _ (λ r h e.
    meeting_gives (saturation_of old.cert) f g es (λ s. resolved_later f g es s c.cover_side.ensures.kept.cert.base.bank c.requires.bindings) c.args.i c.args.j (AreNamed (covered_of old)) (AreNamed (covered_of mid)) (AreNamed (covered_of new))
    (c.in_ok-cover_side.ensures.gives c.if-not-branch.false)
    (side_of_same (saturation_of mid.cert) (saturation_of old.cert) (saturation_same old.cert mid.cert c.requires.ready.whole c.cover_side.ensures.kept.cert) g es Right c.args.j c.args.i (AreNamed (covered_of mid)) (AreNamed (covered_of new))
    (subst (λ (b : Bound_list). GivesSide (saturation_of mid.cert) g b.entries Right c.args.j c.args.i (AreNamed (covered_of mid)) (AreNamed (covered_of new))) c.cover_side.ensures.bindings (h e))))
    c.cover_side-2.ensures.gives
