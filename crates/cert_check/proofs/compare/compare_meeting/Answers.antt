use Rattle.std.proofs.Common.{◌||◌, Bool, subst, sym}
use Rattle.unify_core.specs.Bindings.{Bound_list}
use Rattle.unify_core.specs.Chains.{AreBindings}
use Rattle.unify_core.specs.Terms.{AreTerms}
use Rattle.unify_core.specs.declared.side.Side.TheVariants.{Right}
use Rattle.unify_core.proofs.Stays.{bindings_stay}
use Rattle.clause_form.proofs.Concluded.{terms_later}
use Rattle.clause_form.proofs.Leaves.{resolved_later}
use Rattle.cert_format.specs.Certificate as format
use Rattle.cert_values.specs.Values.{covered_of, saturation_of}
use Rattle.cert_values.proofs.Kept.{covered_same}
use Rattle.cert_check.specs.Closings.{IsProperOn, IsProperSomewhere}
use Rattle.cert_check.specs.DueSteps.{AreCompared, GivesMeeting, GivesSide}
use Rattle.cert_check.proofs.CoverGrowth.{comparable_kept}
use Rattle.cert_check.proofs.Closings.{proper_sides}
use Rattle.cert_check.proofs.DueLaws.{meeting_gives}
use Rattle.cert_check.proofs.compare.compare_meeting.Goals as goal
use Rattle.cert_check.proofs.compare.compare_meeting.Goals.{In_ok-on_right}

pub compare_side-requires-2-clause-comparable : goal.compare_side-requires-2-clause-comparable
compare_side-requires-2-clause-comparable c = comparable_kept c.args.cert.now c.compare_side.new.cert c.requires.comparable c.compare_side.ensures.kept c.in_ok-on_left.ensures.whole

pub compare_side-requires-2-clause-bindings : goal.compare_side-requires-2-clause-bindings
compare_side-requires-2-clause-bindings c =
    let g = c.compare_side.new.cert.cert.base.bank in
    subst (λ (b : Bound_list). AreBindings g b.entries) (sym c.compare_side.ensures.bindings) (bindings_stay c.args.cert.now.cert.base.bank g c.args.rooms.now.bindings.entries c.compare_side.ensures.kept.cert.base.bank c.requires.bindings)

pub compare_side-requires-2-clause-terms : goal.compare_side-requires-2-clause-terms
compare_side-requires-2-clause-terms c =
    let g = c.compare_side.new.cert.cert.base.bank in
    subst (λ (b : Bound_list). AreTerms g b.entries) (sym c.compare_side.ensures.bindings) (terms_later c.args.cert.now.cert.base.bank g c.args.rooms.now.bindings.entries c.compare_side.ensures.kept.cert.base.bank c.requires.bindings c.requires.terms)

somewhere : (c : In_ok-on_right) → IsProperSomewhere c.args.cert.now.cert.base.bank c.args.rooms.now.bindings.entries (c.in_ok-on_left.on_left || c.in_ok-on_right.on_right)
somewhere c =
    let f = c.args.cert.now.cert.base.bank in
    let g = c.compare_side.new.cert.cert.base.bank in
    let es = c.args.rooms.now.bindings.entries in
    proper_sides f g es c.in_ok-on_left.on_left c.in_ok-on_right.on_right (λ s. resolved_later f g es s c.compare_side.ensures.kept.cert.base.bank c.requires.bindings) c.in_ok-on_left.ensures.proper
    (subst (λ (b : Bound_list). IsProperOn g b.entries Right c.in_ok-on_right.on_right) c.compare_side.ensures.bindings c.in_ok-on_right.ensures.proper)

gives : (c : In_ok-on_right) → GivesMeeting (saturation_of c.args.cert.now.cert) c.args.cert.now.cert.base.bank c.args.rooms.now.bindings.entries c.args.i c.args.j
    (AreCompared (covered_of c.args.cert.now) c.args.progress.now) (AreCompared (covered_of c.args.cert.now) c.compare_side-2.new.progress)
gives c =
    let old = c.args.cert.now in
    let mid = c.compare_side.new.cert in
    let es = c.args.rooms.now.bindings.entries in
    let f = old.cert.base.bank in
    let g = mid.cert.base.bank in
    let v = covered_of old in
    let same = covered_same old mid c.requires.comparable.whole c.compare_side.ensures.kept in
    meeting_gives (saturation_of old.cert) f g es (λ s. resolved_later f g es s c.compare_side.ensures.kept.cert.base.bank c.requires.bindings) c.args.i c.args.j
    (AreCompared v c.args.progress.now) (AreCompared v c.compare_side.new.progress) (AreCompared v c.compare_side-2.new.progress) c.in_ok-on_left.ensures.gives
    (subst (λ (x : format.Covered). GivesSide x.saturation g es Right c.args.j c.args.i (AreCompared x c.compare_side.new.progress) (AreCompared x c.compare_side-2.new.progress)) same
    (subst (λ (b : Bound_list). GivesSide (saturation_of mid.cert) g b.entries Right c.args.j c.args.i (AreCompared (covered_of mid) c.compare_side.new.progress) (AreCompared (covered_of mid) c.compare_side-2.new.progress)) c.compare_side.ensures.bindings
    c.in_ok-on_right.ensures.gives))

pub returns-else-on_left-clause-proper : goal.returns-else-on_left-clause-proper
returns-else-on_left-clause-proper c = subst (λ (l : Bool). IsProperSomewhere c.args.cert.now.cert.base.bank c.args.rooms.now.bindings.entries (l || c.in_ok-on_right.on_right)) c.if-on_left.false (somewhere c.before)

pub returns-then-on_left-clause-gives : goal.returns-then-on_left-clause-gives
returns-then-on_left-clause-gives c t = gives c.before

pub returns-else-on_left-clause-gives : goal.returns-else-on_left-clause-gives
returns-else-on_left-clause-gives c t = gives c.before
