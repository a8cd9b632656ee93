use Rattle.std.proofs.Common.{IfNone, ℕ, ◌<◌, subst}
use Rattle.std.specs.Prelude.{Contains}
use Rattle.cdcl_core.proofs.places.Places.take_below.Goals as goal

pub returns-clause-none : goal.returns-clause-none
returns-clause-none c = subst (λ xs. IfNone c.take_below.result ((k : ℕ) → k < c.args.limit → Contains xs k → ⊥)) c.self.view_is c.take_below.ensures.none
