use Rattle.instgen_loop.proofs.Started.{not_nothing}
use Rattle.instgen_loop.proofs.outcome.run.Goals as goal

pub unreachable-requires : goal.unreachable-requires
unreachable-requires g c = not_nothing c.in_ok-outcome.field-0 (c.in_ok-outcome.ensures.unbounded c.plain.ensures.unbounded) c.in-None.is
