use Rattle.cdcl_core.proofs.EndLaws.{truth_read}
use Rattle.cdcl_core.proofs.search.is_true.Goals as goal

pub returns : goal.returns
returns c = truth_read c.args.trail.now.trail c.args.lit c.value.result c.unwrap_or.result c.requires.trail c.value.ensures c.unwrap_or.ensures
