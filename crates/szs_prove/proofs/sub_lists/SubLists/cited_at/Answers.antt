use Rattle.std.proofs.Common.{ap}
use Rattle.inst_logic.specs.declared.clause.Problem.{Problem}
use Rattle.szs_prove.proofs.SubProblems.{settled_at}
use Rattle.szs_prove.proofs.sub_lists.SubLists.cited_at.Goals as goal

pub returns : goal.returns
returns c = settled_at c.args.self.now.clauses c.args.places.now c.requires c.in_ok-sub.sub.clauses (ap (λ (q : Problem). q.clauses) c.in_ok-sub.ensures.is) c.cited_clauses.result c.cited_clauses.ensures
