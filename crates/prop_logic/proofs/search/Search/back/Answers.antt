use Rattle.std.proofs.Common.{subst, arith}
use Rattle.prop_logic.specs.Search.{IsConflict}
use Rattle.prop_logic.proofs.PlainLaws.{no_entries}
use Rattle.prop_logic.proofs.search.Search.back.Goals as goal

pub returns-clause-left : goal.returns-clause-left
returns-clause-left c =
    let s = c.loop-alloc.self in
    subst (λ xs. IsConflict c.args.clauses.now s.steps c.args.assumptions.now xs c.loop-alloc.conflict) (no_entries s.entries.items (omega (arith, c.loop-alloc-test.false, c.len.ensures, s.entries.ok.0))) c.loop-alloc.invariant.conflict
