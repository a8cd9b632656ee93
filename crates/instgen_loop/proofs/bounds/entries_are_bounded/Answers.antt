use Rattle.instgen_loop.proofs.Bounded.{entries_bounded, appended_bounded}
use Rattle.instgen_loop.proofs.bounds.entries_are_bounded.Goals as goal

pub returns-clause-entries : goal.returns-clause-entries
returns-clause-entries g c = entries_bounded g.S.Solver.atoms g.S.Solver.added c.args._run.now

pub returns-clause-appended : goal.returns-clause-appended
returns-clause-appended g c = appended_bounded g.S.Solver.atoms g.S.Solver.added c.args._run.now
