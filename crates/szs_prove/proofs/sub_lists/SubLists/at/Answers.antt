use Rattle.std.proofs.Common.{sym, subst}
use Rattle.inst_logic.specs.declared.clause.Problem.{Problem}
use Rattle.core_min.specs.Cores.{ArePlaces}
use Rattle.szs_prove.specs.SubProblems.{IsDecidable}
use Rattle.szs_prove.proofs.SubProblems.{decidable_at}
use Rattle.szs_prove.proofs.sub_lists.SubLists.at.Goals as goal

pub returns-clause-decidable : goal.returns-clause-decidable
returns-clause-decidable c =
    subst IsDecidable (sym c.in_ok-sub.ensures)
    (decidable_at c.self.inside.problem.now c.args.places.now c.self.invariant (subst (λ (p : Problem). ArePlaces p.clauses c.args.places.now) (sym c.self.view_is) c.requires))
