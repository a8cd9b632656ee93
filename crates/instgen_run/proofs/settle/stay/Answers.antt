use Rattle.std.proofs.Common.{◌≤◌, ◌∙◌, ℕ, subst, length, ap₂}
use Rattle.instgen_run.specs.Logs.{with_solve}
use Rattle.instgen_run.proofs.Settled.{stays_under_way, stays_selectable, stays_within, stays_settled, stays_orderly, stays_solves}
use Rattle.instgen_run.proofs.settle.stay.Goals as goal

pub place_new-requires-clause-within : goal.place_new-requires-clause-within
place_new-requires-clause-within g c =
    let u = c.in_ok-make_users.ensures in
    stays_within g.S.Solver.atoms g.I.PartnerIndex.pairs g.I.PartnerIndex.fits g.S.Solver.added c.args.run.now c.args._partners.now c.requires.orderly c.requires.users c.requires.grounded
    c.make_users.new.self u.places (subst (λ (n : ℕ). n ≤ length c.make_users.new.self.users) c.len.ensures.len u.count) u.users

pub place_new-requires-clause-below : goal.place_new-requires-clause-below
place_new-requires-clause-below g c =
    let u = c.in_ok-make_users.ensures in
    (stays_selectable g.S.Solver.atoms g.I.PartnerIndex.pairs g.I.PartnerIndex.fits g.S.Solver.added c.args.run.now c.args._partners.now c.requires.orderly c.requires.users c.requires.grounded
    c.make_users.new.self u.places (subst (λ (n : ℕ). n ≤ length c.make_users.new.self.users) c.len.ensures.len u.count) u.users c.requires.hold).below

pub place_new-requires-clause-under_way : goal.place_new-requires-clause-under_way
place_new-requires-clause-under_way g c =
    let u = c.in_ok-make_users.ensures in
    stays_under_way g.S.Solver.atoms g.I.PartnerIndex.pairs g.I.PartnerIndex.fits g.S.Solver.added c.args.run.now c.args._partners.now c.requires.orderly c.requires.users c.requires.grounded
    c.make_users.new.self u.places (subst (λ (n : ℕ). n ≤ length c.make_users.new.self.users) c.len.ensures.len u.count) u.users

pub place_new-requires-clause-numbers : goal.place_new-requires-clause-numbers
place_new-requires-clause-numbers g c =
    let u = c.in_ok-make_users.ensures in
    (stays_selectable g.S.Solver.atoms g.I.PartnerIndex.pairs g.I.PartnerIndex.fits g.S.Solver.added c.args.run.now c.args._partners.now c.requires.orderly c.requires.users c.requires.grounded
    c.make_users.new.self u.places (subst (λ (n : ℕ). n ≤ length c.make_users.new.self.users) c.len.ensures.len u.count) u.users c.requires.hold).placed

pub returns-clause-orderly : goal.returns-clause-orderly
returns-clause-orderly g c =
    let u = c.in_ok-make_users.ensures in
    let w = c.in_ok-place_new.ensures in
    stays_orderly g.S.Solver.atoms g.I.PartnerIndex.pairs g.I.PartnerIndex.fits g.S.Solver.added c.args.run.now c.args._partners.now c.requires.orderly c.requires.users c.requires.grounded
    c.make_users.new.self u.places (subst (λ (n : ℕ). n ≤ length c.make_users.new.self.users) c.len.ensures.len u.count) u.users
    c.place_new.new.selection w.grows.0 w.grows.1 w.under_way w.numbers w.whole c.push_solved.new.self

pub returns-clause-users : goal.returns-clause-users
returns-clause-users g c =
    let u = c.in_ok-make_users.ensures in
    let w = c.in_ok-place_new.ensures in
    (stays_settled g.S.Solver.atoms g.I.PartnerIndex.pairs g.I.PartnerIndex.fits g.S.Solver.added c.args.run.now c.args._partners.now c.requires.orderly c.requires.users c.requires.grounded
    c.make_users.new.self u.places (subst (λ (n : ℕ). n ≤ length c.make_users.new.self.users) c.len.ensures.len u.count) u.users
    c.place_new.new.selection w.grows.0 w.grows.1 w.under_way w.numbers w.whole c.push_solved.new.self).users

pub returns-clause-whole : goal.returns-clause-whole
returns-clause-whole g c =
    let u = c.in_ok-make_users.ensures in
    let w = c.in_ok-place_new.ensures in
    (stays_settled g.S.Solver.atoms g.I.PartnerIndex.pairs g.I.PartnerIndex.fits g.S.Solver.added c.args.run.now c.args._partners.now c.requires.orderly c.requires.users c.requires.grounded
    c.make_users.new.self u.places (subst (λ (n : ℕ). n ≤ length c.make_users.new.self.users) c.len.ensures.len u.count) u.users
    c.place_new.new.selection w.grows.0 w.grows.1 w.under_way w.numbers w.whole c.push_solved.new.self).whole

pub returns-clause-solves : goal.returns-clause-solves
returns-clause-solves g c =
    let u = c.in_ok-make_users.ensures in
    let w = c.in_ok-place_new.ensures in
    stays_solves g.S.Solver.atoms g.I.PartnerIndex.pairs g.I.PartnerIndex.fits g.S.Solver.added c.args.run.now c.args._partners.now c.requires.orderly c.requires.users c.requires.grounded
    c.make_users.new.self u.places (subst (λ (n : ℕ). n ≤ length c.make_users.new.self.users) c.len.ensures.len u.count) u.users
    c.place_new.new.selection w.grows.0 w.grows.1 w.under_way w.numbers w.whole c.push_solved.new.self
    (c.in_ok-push_solved.ensures ∙ ap₂ (λ fs n. with_solve c.args.run.now.log fs n) c.new-flips.ensures c.len-entries.ensures.len)
