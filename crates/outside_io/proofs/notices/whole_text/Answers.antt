use Rattle.std.proofs.Common.{append-nil}
use Rattle.outside_io.proofs.notices.whole_text.Goals as goal

pub returns : goal.returns
returns c = append-nil c.args.text.now
