use Rattle.std.proofs.Common.{sym}
use Rattle.cdcl_trail.specs.Values.{entries_of}
use Rattle.cdcl_trail.proofs.ScanLaws.{is_false_by, not_false_by}
use Rattle.cdcl_trail.proofs.values.Values.is_false.Goals as goal

pub returns-in-Some : goal.returns-in-Some
returns-in-Some c = is_false_by (entries_of c.args.self.now) c.args.l c.in-Some.held c.requires.values.by_atom.once (sym c.in-Some.ensures)

pub returns-in-None : goal.returns-in-None
returns-in-None c = not_false_by (entries_of c.args.self.now) c.args.l c.requires.values.by_atom.once (sym c.in-None.ensures)
