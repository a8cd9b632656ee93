use Rattle.std.proofs.Common.{sym, ap, ◌∙◌}
use Rattle.cdcl_trail.specs.Attached.{WatchedTrail}
use Rattle.cdcl_trail.specs.Trail.{reason_of}
use Rattle.cdcl_trail.specs.Values.{entries_of}
use Rattle.cdcl_trail.proofs.TrailLaws.{reason_found, reason_in}
use Rattle.cdcl_trail.proofs.trail.Trail.reason.Goals as goal

pub returns-in-Some : goal.returns-in-Some
returns-in-Some c =
    ap reason_in c.in-Some.ensures ∙ sym (reason_found (entries_of c.self.inside.watched.values) c.args.atom) ∙ ap (λ (t : WatchedTrail). reason_of t.trail.entries c.args.atom) c.self.view_is

pub returns-in-None : goal.returns-in-None
returns-in-None c =
    ap reason_in c.in-None.ensures ∙ sym (reason_found (entries_of c.self.inside.watched.values) c.args.atom) ∙ ap (λ (t : WatchedTrail). reason_of t.trail.entries c.args.atom) c.self.view_is
