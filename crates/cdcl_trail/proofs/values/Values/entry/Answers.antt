use Rattle.cdcl_trail.specs.Values.{entries_of}
use Rattle.cdcl_trail.proofs.ValuesLaws.{found_is}
use Rattle.cdcl_trail.proofs.values.Values.entry.Goals as goal

pub returns : goal.returns
returns c =
    let v = c.args.self.now in
    found_is (entries_of v) v.entries.items c.args.atom c.entry.result c.requires.values.by_atom c.entry.ensures
