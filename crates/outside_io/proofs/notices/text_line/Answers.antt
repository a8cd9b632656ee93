use Rattle.std.proofs.Common.{append-nil}
use Rattle.outside_io.proofs.notices.text_line.Goals as goal

pub returns : goal.returns
returns c = append-nil c.args.text.now
