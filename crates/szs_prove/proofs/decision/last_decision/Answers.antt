use Rattle.instgen_loop.proofs.Started.{not_nothing}
use Rattle.szs_prove.proofs.decision.last_decision.Goals as goal

pub unreachable-requires : goal.unreachable-requires
unreachable-requires c = not_nothing c.in_ok-decision.field-0 (c.in_ok-decision.ensures.unbounded c.usual_choices-choices.ensures) c.in-None.is
