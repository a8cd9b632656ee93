use Rattle.std.proofs.Common.{◌<◌, ◌≤◌, [], sym, subst, ℕ, List, All, length}
use Rattle.instgen_run.specs.Selections.{Placing}
use Rattle.instgen_run.specs.Choosing.{IsUnderWay}
use Rattle.std.proofs.Math.ListN.{set}
use Rattle.instgen_run.proofs.Withdrawn.{orderly_users, taken_selectable, taken_away, taken_reselects}
use Rattle.instgen_run.proofs.reselect.reselect_users.Goals as goal

pub reselect_each-requires-clause-within : goal.reselect_each-requires-clause-within
reselect_each-requires-clause-within g c =
    subst (λ (s : Placing). All (λ n. (0 < n) × (n ≤ length s.places)) c.as_slice.result.now) (sym c.take_users-users.ensures.rest)
    (subst (All (λ n. (0 < n) × (n ≤ length c.args.run.now.selection.places))) (sym c.as_slice.ensures) (c.requires.selectable.placed c.args.atom c.take_users-users.result c.take_users-users.ensures.taken))

pub reselect_each-requires-clause-orderly : goal.reselect_each-requires-clause-orderly
reselect_each-requires-clause-orderly g c =
    orderly_users g.S.Solver.atoms g.I.PartnerIndex.pairs g.I.PartnerIndex.fits c.args.run.now c.args.partners.now c.requires.orderly (set c.args.run.now.selection.users c.args.atom []) c.take_users-users.new.self c.take_users-users.ensures.rest

pub reselect_each-requires-clause-selectable : goal.reselect_each-requires-clause-selectable
reselect_each-requires-clause-selectable g c =
    taken_selectable c.args.run.now c.args.v.now c.requires.selectable c.args.atom c.requires.atom c.take_users-users.new.self c.take_users-users.ensures.rest

pub returns-clause-reselects : goal.returns-clause-reselects
returns-clause-reselects g c =
    taken_reselects c.args.run.now c.args.v.now c.requires.selectable c.args.atom c.requires.atom c.take_users-users.new.self c.take_users-users.ensures.rest c.reselect_each.new.run c.in_ok-reselect_each.ensures.reselects

pub returns-clause-chosen : goal.returns-clause-chosen
returns-clause-chosen g c = λ left h.
    c.in_ok-reselect_each.ensures.chosen left
    (subst (λ (es : List ℕ). IsUnderWay c.args.run.now.ground.literals c.args.v.now left es c.take_users-users.new.self) (sym c.as_slice.ensures)
    (taken_away c.args.run.now c.args.v.now c.requires.selectable c.args.atom c.requires.atom c.take_users-users.new.self c.take_users-users.ensures.rest c.take_users-users.result left c.take_users-users.ensures.taken h))
