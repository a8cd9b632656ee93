use Rattle.std.proofs.Common.{rules, sym, subst}
use Rattle.inst_calculus.proofs.EqualityAxioms.{with_axioms_formed}
use Rattle.instgen_loop.specs.Tasks.{all_clauses, IsWithinBudget}
use Rattle.instgen_loop.proofs.Started.{all_wait, printable_formed}
use Rattle.instgen_loop.proofs.FreshRuns.{problem_later, same_constant, appended_within}
use Rattle.instgen_loop.proofs.outcome.drive.Goals as goal

pub cycle-requires-clause-tended : goal.cycle-requires-clause-tended
cycle-requires-clause-tended g c = all_wait g.I.PartnerIndex.pairs c.start.new.run c.args.partners c.requires.positive c.requires.negative c.in_ok-given.ensures.waiting

pub cycle-requires-clause-formed : goal.cycle-requires-clause-formed
cycle-requires-clause-formed g c = with_axioms_formed c.args.task.now.problem.now.clauses (printable_formed c.args.task.now.problem.now.clauses c.requires.printable.clauses)

pub refuted_ending-requires-clause-problem : goal.refuted_ending-requires-clause-problem
refuted_ending-requires-clause-problem g c =
    let d = c.in_ok-derivation.ensures in
    let clauses = c.args.task.now.problem.now.clauses in
    let old = c.start.new.run in
    let new = c.cycle.new.run in
    problem_later old new c.in_ok-given.given clauses d.bank
    (same_constant g.S.Solver.atoms g.S.Solver.added new old.ground.abstraction.bot (all_clauses c.args.task.now) c.args.task.now.budget (d.kept old.ground.abstraction.bot c.in_ok-given.ensures.running)) c.in_ok-given.ensures.problem

pub finish-requires-clause-finished : goal.finish-requires-clause-finished
finish-requires-clause-finished g c =
    let d = c.in_ok-derivation.ensures in
    let clauses = c.args.task.now.problem.now.clauses in
    let old = c.start.new.run in
    let new = c.cycle.new.run in
    record {
      rest = record { safe = d.safe; tended = d.tended; rests = search rules; whole = search rules };
      solved = search rules;
      problem = problem_later old new c.in_ok-given.given clauses d.bank
          (same_constant g.S.Solver.atoms g.S.Solver.added new old.ground.abstraction.bot (all_clauses c.args.task.now) c.args.task.now.budget (d.kept old.ground.abstraction.bot c.in_ok-given.ensures.running)) c.in_ok-given.ensures.problem;
    }

pub returns-in-Refuted-clause-appended : goal.returns-in-Refuted-clause-appended
returns-in-Refuted-clause-appended g c =
    let t = c.args.task.now in
    subst (IsWithinBudget t) (sym c.in_ok-ending-in-Refuted.ensures.events) (appended_within g.S.Solver.atoms g.S.Solver.added c.cycle.new.run t.problem.now.clauses t.budget c.in_ok-derivation.ensures.running)

pub returns-in-Finished-clause-appended : goal.returns-in-Finished-clause-appended
returns-in-Finished-clause-appended g c =
    let t = c.args.task.now in
    subst (IsWithinBudget t) (sym c.in_ok-ending-in-Finished.ensures.events) (appended_within g.S.Solver.atoms g.S.Solver.added c.cycle.new.run t.problem.now.clauses t.budget c.in_ok-derivation.ensures.running)
