use Rattle.std.proofs.Common.{◌∙◌, ap}
use Rattle.tptp_read.specs.LexemeView.{texts}
use Rattle.tptp_read.proofs.NameSets.{with_name}
use Rattle.tptp_read.proofs.numbers.note.Goals as goal

pub returns : goal.returns
returns c = ap texts c.in_ok-insert.ensures.keys ∙ with_name c.args.seen.now.keys c.args.name
