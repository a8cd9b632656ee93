use Rattle.std.proofs.Common.{sym, ap, ◌∙◌}
use Rattle.std.specs.Option.{option_map}
use Rattle.cdcl_trail.specs.Attached.{WatchedTrail}
use Rattle.cdcl_trail.specs.declared.entry.Entry.{Entry}
use Rattle.cdcl_trail.specs.Trail.{level_of}
use Rattle.cdcl_trail.specs.Values.{entries_of}
use Rattle.cdcl_trail.proofs.TrailLaws.{level_found}
use Rattle.cdcl_trail.proofs.trail.Trail.level_of.Goals as goal

pub returns-in-Some : goal.returns-in-Some
returns-in-Some c =
    ap (option_map (λ (e : Entry). e.level)) c.in-Some.ensures ∙ sym (level_found (entries_of c.self.inside.watched.values) c.args.atom) ∙ ap (λ (t : WatchedTrail). level_of t.trail.entries c.args.atom) c.self.view_is

pub returns-in-None : goal.returns-in-None
returns-in-None c =
    ap (option_map (λ (e : Entry). e.level)) c.in-None.ensures ∙ sym (level_found (entries_of c.self.inside.watched.values) c.args.atom) ∙ ap (λ (t : WatchedTrail). level_of t.trail.entries c.args.atom) c.self.view_is
