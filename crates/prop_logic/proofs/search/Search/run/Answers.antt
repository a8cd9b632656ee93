use Rattle.prop_logic.proofs.PlainLaws.{not_ended, risen_falls}
use Rattle.prop_logic.proofs.search.Search.run.Goals as goal

pub loop-outcome-smaller : goal.loop-outcome-smaller
loop-outcome-smaller c =
    let old = c.loop-outcome.self in
    let new = c.advance.new.self in
    let goes = not_ended c.args.clauses.now c.args.assumptions.now old new c.in_ok-outcome.field-0 c.in_default.not-Some c.in_ok-outcome.ensures in
    risen_falls old new c.loop-outcome.invariant.search.within goes.0.within goes.1
