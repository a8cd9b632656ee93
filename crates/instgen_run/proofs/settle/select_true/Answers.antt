use Rattle.std.proofs.Common.{◌≤◌, ℕ, subst, length, arith}
use Rattle.instgen_run.proofs.Settled.{count_of, grown_orderly, started_orderly, started_selectable, started_under_way, started_atoms, middle_under_way, all_settled}
use Rattle.instgen_run.proofs.UnderWay.{all_are_true}
use Rattle.instgen_run.proofs.settle.select_true.Goals as goal

pub reselect_all-requires-clause-orderly : goal.reselect_all-requires-clause-orderly
reselect_all-requires-clause-orderly g c =
    let u = c.in_ok-make_users.ensures in
    started_orderly g.S.Solver.atoms g.I.PartnerIndex.pairs g.I.PartnerIndex.fits g.S.Solver.added c.args.run.now c.args.partners.now c.args.v.now c.args.changed.now c.requires.orderly c.requires.users c.requires.grounded
    c.make_users.new.self u.places (subst (λ (n : ℕ). n ≤ length c.make_users.new.self.users) c.len.ensures.len u.count) u.users

pub reselect_all-requires-clause-selectable : goal.reselect_all-requires-clause-selectable
reselect_all-requires-clause-selectable g c =
    let u = c.in_ok-make_users.ensures in
    started_selectable g.S.Solver.atoms g.I.PartnerIndex.pairs g.I.PartnerIndex.fits g.S.Solver.added c.args.run.now c.args.partners.now c.args.v.now c.args.changed.now c.requires.orderly c.requires.users c.requires.grounded
    c.make_users.new.self u.places (subst (λ (n : ℕ). n ≤ length c.make_users.new.self.users) c.len.ensures.len u.count) u.users c.requires.hold

pub reselect_all-requires-clause-atoms : goal.reselect_all-requires-clause-atoms
reselect_all-requires-clause-atoms g c =
    let u = c.in_ok-make_users.ensures in
    started_atoms g.S.Solver.atoms g.I.PartnerIndex.pairs g.I.PartnerIndex.fits g.S.Solver.added c.args.run.now c.args.partners.now c.args.v.now c.args.changed.now c.requires.orderly c.requires.users c.requires.grounded
    c.make_users.new.self u.places (subst (λ (n : ℕ). n ≤ length c.make_users.new.self.users) c.len.ensures.len u.count) u.users c.requires.below

pub place_new-requires-clause-within : goal.place_new-requires-clause-within
place_new-requires-clause-within g c =
    let mid = c.reselect_all.new.run in
    let w = c.in_ok-reselect_all.ensures.orderly.safe.within in
    let e = count_of mid.ground.literals mid.entries.clauses.entries c.in_ok-reselect_all.ensures.selectable.lengths in
    omega arith

pub place_new-requires-clause-hold : goal.place_new-requires-clause-hold
place_new-requires-clause-hold g c = c.in_ok-reselect_all.ensures.selectable.hold

pub place_new-requires-clause-below : goal.place_new-requires-clause-below
place_new-requires-clause-below g c = c.in_ok-reselect_all.ensures.selectable.below

pub place_new-requires-clause-under_way : goal.place_new-requires-clause-under_way
place_new-requires-clause-under_way g c =
    let u = c.in_ok-make_users.ensures in
    middle_under_way c.args.run.now c.reselect_all.new.run c.make_users.new.self c.reselect_all.new.run.selection c.args.v.now c.in_ok-reselect_all.ensures.reselects
    (c.in_ok-reselect_all.ensures.chosen
    (started_under_way g.S.Solver.atoms g.I.PartnerIndex.pairs g.I.PartnerIndex.fits g.S.Solver.added c.args.run.now c.args.partners.now c.args.v.now c.args.changed.now c.requires.orderly c.requires.users c.requires.grounded
    c.make_users.new.self u.places (subst (λ (n : ℕ). n ≤ length c.make_users.new.self.users) c.len.ensures.len u.count) u.users c.requires.changes))

pub place_new-requires-clause-numbers : goal.place_new-requires-clause-numbers
place_new-requires-clause-numbers g c = c.in_ok-reselect_all.ensures.selectable.placed

pub returns-clause-orderly : goal.returns-clause-orderly
returns-clause-orderly g c =
    let mid = c.reselect_all.new.run in
    let u = c.in_ok-place_new.ensures in
    grown_orderly g.S.Solver.atoms g.I.PartnerIndex.pairs g.I.PartnerIndex.fits mid c.reselect_all.new.partners c.args.v.now c.in_ok-reselect_all.ensures.orderly c.place_new.new.selection u.grows.0 u.grows.1
    c.in_ok-reselect_all.ensures.selectable.lengths u.whole (all_are_true mid.ground.literals c.args.v.now c.place_new.new.selection u.under_way)

pub returns-clause-settles : goal.returns-clause-settles
returns-clause-settles g c =
    let u = c.in_ok-place_new.ensures in
    all_settled c.args.run.now c.reselect_all.new.run c.make_users.new.self c.place_new.new.selection c.args.v.now c.in_ok-reselect_all.ensures.reselects c.in_ok-reselect_all.ensures.selectable.lengths u.under_way u.numbers u.whole
