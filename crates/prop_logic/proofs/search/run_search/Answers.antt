use Rattle.std.proofs.Common.{subst}
use Rattle.prop_logic.specs.Search.{IsCore, IsOutcome}
use Rattle.prop_logic.proofs.SearchLaws.{core_refutes}
use Rattle.prop_logic.proofs.search.run_search.Goals as goal

pub returns-in-Unsat : goal.returns-in-Unsat
returns-in-Unsat c =
    let clauses = c.args.clauses.now in
    let assumptions = c.args.assumptions.now in
    let core = c.in-Unsat.core in
    let steps = c.run.new.self.steps in
    let found : IsCore clauses assumptions core c.args.atoms steps = subst (IsOutcome clauses assumptions c.args.atoms steps) c.in-Unsat.is c.in_ok-valuation.ensures in
    core_refutes c.args.atoms clauses assumptions core steps found
