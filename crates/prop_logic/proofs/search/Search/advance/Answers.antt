use Rattle.std.proofs.Common.{subst}
use Rattle.std.specs.Prelude.{All}
use Rattle.prop_logic.specs.Search.{IsConflict, HasRest}
use Rattle.prop_logic.proofs.search.Search.advance.Goals as goal

pub resolve-requires-clause-conflict : goal.resolve-requires-clause-conflict
resolve-requires-clause-conflict c = subst (λ xs. IsConflict c.args.clauses.now c.args.self.now.steps c.args.assumptions.now xs c.in-Some.conflict) c.as_slice.ensures.value (c.in-Some.ensures.some c.args.self.now.steps c.args.assumptions.now)

pub extend-requires-clause-rest : goal.extend-requires-clause-rest
extend-requires-clause-rest c = subst (λ xs. All (HasRest xs) c.args.clauses.now) c.as_slice.ensures.value c.in-None.ensures.none
