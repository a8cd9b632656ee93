use Rattle.core_min.proofs.SubLists.{not_both}
use Rattle.szs_prove.proofs.Settled.{refuted_clauses}
use Rattle.szs_prove.proofs.certificates.saturation_in.Goals as goal

pub unreachable-requires : goal.unreachable-requires
unreachable-requires c = not_both c.args._p.now.clauses c.requires.satisfiable (refuted_clauses c.args._p.now c.args.decision c.requires.decision _ c.in-Unsatisfiable.is)
