use Rattle.instgen_run.proofs.Grounded.{sat_satisfies, unsat_refutes}
use Rattle.instgen_loop.proofs.derived.refutation.Goals as goal

pub unreachable-requires : goal.unreachable-requires
unreachable-requires g c =
    let s = c.args.solver.now in
    c.requires c.in-Sat.field-0 (sat_satisfies (g.S.Solver.atoms s) (g.S.Solver.added s) c.in_ok-solve.field-0 c.in-Sat.field-0 c.in_ok-solve.ensures.answer c.in-Sat.is).makes_true

pub returns : goal.returns
returns g c =
    let s = c.args.solver.now in
    unsat_refutes (g.S.Solver.atoms s) (g.S.Solver.added s) c.in_ok-solve.field-0 c.in-Unsat.core c.in-Unsat.derivation c.in_ok-solve.ensures.answer c.in-Unsat.is
