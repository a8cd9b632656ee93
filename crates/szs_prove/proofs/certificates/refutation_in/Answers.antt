use Rattle.core_min.proofs.SubLists.{not_both}
use Rattle.szs_prove.proofs.Settled.{satisfied_clauses}
use Rattle.szs_prove.proofs.certificates.refutation_in.Goals as goal

pub unreachable-requires : goal.unreachable-requires
unreachable-requires c = not_both c.args._p.now.clauses (satisfied_clauses c.args._p.now c.args.decision c.requires.decision _ c.in-Satisfiable.is) c.requires.refuted
