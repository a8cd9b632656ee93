use Rattle.std.proofs.Common.{ap, ◌∙◌}
use Rattle.std.specs.Prelude.{slice_get}
use Rattle.cdcl_trail.specs.Values.{entries_of}
use Rattle.cdcl_trail.proofs.ValuesLaws.{unset_atom}
use Rattle.cdcl_trail.proofs.values.Values.place.Goals as goal

pub returns-in-Some-clause-some : goal.returns-in-Some-clause-some
returns-in-Some-clause-some c =
    let v = c.args.self.now in
    let a = c.args.atom in
    let s = c.in-Some.ensures.some in
    (s.0, ap (slice_get (entries_of v)) c.place.ensures ∙ c.requires.values.places.held a s.0 s.1, (c.requires.values.by_atom.by_entry a s.0 s.1).1)

pub returns-in-None-clause-none : goal.returns-in-None-clause-none
returns-in-None-clause-none c =
    let v = c.args.self.now in
    unset_atom (entries_of v) v.entries.items c.args.atom c.requires.values.by_atom c.in-None.ensures.none
