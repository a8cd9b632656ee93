use Rattle.std.proofs.Common.{ap, ◌∙◌}
use Rattle.std.specs.Prelude.{slice_get}
use Rattle.cdcl_core.proofs.MeetLaws.{place_read}
use Rattle.cdcl_core.proofs.analysis.place_of.Goals as goal

pub returns : goal.returns
returns c e inside same =
    let t = c.args.trail.now.trail in
    ap (slice_get t.entries) c.unwrap_or.ensures ∙ place_read t c.args.lit c.place_of.result e c.requires.trail inside same c.place_of.ensures.some c.place_of.ensures.none
