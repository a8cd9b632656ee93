use Rattle.std.proofs.Common.{sym}
use Rattle.cdcl_trail.specs.Values.{entries_of}
use Rattle.cdcl_trail.proofs.ScanLaws.{is_true_by, not_true_by}
use Rattle.cdcl_trail.proofs.values.Values.is_true.Goals as goal

pub returns-in-Some : goal.returns-in-Some
returns-in-Some c = is_true_by (entries_of c.args.self.now) c.args.l c.in-Some.held c.requires.values.by_atom.once (sym c.in-Some.ensures)

pub returns-in-None : goal.returns-in-None
returns-in-None c = not_true_by (entries_of c.args.self.now) c.args.l c.requires.values.by_atom.once (sym c.in-None.ensures)
