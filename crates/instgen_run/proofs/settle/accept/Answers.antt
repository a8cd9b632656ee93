use Rattle.std.proofs.Common.{◌≤◌, ◌<◌, ◌∙◌, All, ap, sym, subst, length}
use Rattle.inst_logic.specs.Truth.{IsTrueClause}
use Rattle.prop_logic.specs.Valuation.{IsHeld, AreChanges}
use Rattle.instgen_run.specs.Logs.{with_solve}
use Rattle.instgen_run.proofs.Settled.{accepted_orderly, accepted_solves, accepted_users, accepted_whole}
use Rattle.instgen_run.proofs.settle.accept.Goals as goal

pub flips_between-requires-clause-fits : goal.flips_between-requires-clause-fits
flips_between-requires-clause-fits g c = c.requires.orderly.safe.numbered

pub flips_between-requires-clause-new : goal.flips_between-requires-clause-new
flips_between-requires-clause-new g c = subst (λ n. length c.args.v ≤ n) c.requires.orderly.safe.count c.requires.satisfies.within

pub select_true-requires-clause-hold : goal.select_true-requires-clause-hold
select_true-requires-clause-hold g c = subst (All (IsTrueClause (IsHeld c.args.v))) c.requires.grounded.given c.requires.satisfies.makes_true.clauses_true

pub select_true-requires-clause-changes : goal.select_true-requires-clause-changes
select_true-requires-clause-changes g c = subst (AreChanges c.args.run.now.ground.valuation c.args.v) (sym c.deref.ensures.value) c.in_ok-flips.ensures.numbers

pub select_true-requires-clause-below : goal.select_true-requires-clause-below
select_true-requires-clause-below g c = subst (All (λ n. n < length c.args.run.now.ground.abstraction.ids)) (sym c.deref.ensures.value) c.in_ok-flips.ensures.below

pub returns-clause-orderly : goal.returns-clause-orderly
returns-clause-orderly g c =
    accepted_orderly g.S.Solver.atoms g.I.PartnerIndex.pairs g.I.PartnerIndex.fits c.select_true.new.run c.select_true.new.partners c.in_ok-select_true.ensures.orderly c.push_solved.new.self c.args.v

pub returns-clause-users : goal.returns-clause-users
returns-clause-users g c =
    accepted_users g.S.Solver.atoms g.S.Solver.added c.args.run.now c.select_true.new.run c.args.v c.in_ok-select_true.ensures.settles c.push_solved.new.self c.in_ok-flips.flips.atoms (c.in_ok-push_solved.ensures ∙ ap (with_solve c.select_true.new.run.log c.in_ok-flips.flips.atoms) c.len-entries.ensures.len) c.in_ok-flips.ensures.ids c.in_ok-flips.ensures.flips
    (subst (λ n. length c.args.v ≤ n) c.requires.orderly.safe.count c.requires.satisfies.within)

pub returns-clause-whole : goal.returns-clause-whole
returns-clause-whole g c =
    accepted_whole g.S.Solver.atoms g.S.Solver.added c.args.run.now c.select_true.new.run c.args.v c.in_ok-select_true.ensures.settles c.push_solved.new.self c.in_ok-flips.flips.atoms (c.in_ok-push_solved.ensures ∙ ap (with_solve c.select_true.new.run.log c.in_ok-flips.flips.atoms) c.len-entries.ensures.len) c.in_ok-flips.ensures.ids c.in_ok-flips.ensures.flips
    (subst (λ n. length c.args.v ≤ n) c.requires.orderly.safe.count c.requires.satisfies.within)

pub returns-clause-solves : goal.returns-clause-solves
returns-clause-solves g c = (
  c.in_ok-flips.flips.atoms,
  accepted_solves g.S.Solver.atoms g.S.Solver.added c.args.run.now c.select_true.new.run c.args.v c.in_ok-select_true.ensures.settles c.push_solved.new.self c.in_ok-flips.flips.atoms (c.in_ok-push_solved.ensures ∙ ap (with_solve c.select_true.new.run.log c.in_ok-flips.flips.atoms) c.len-entries.ensures.len) c.in_ok-flips.ensures.ids c.in_ok-flips.ensures.flips
      (subst (λ n. length c.args.v ≤ n) c.requires.orderly.safe.count c.requires.satisfies.within),
)
