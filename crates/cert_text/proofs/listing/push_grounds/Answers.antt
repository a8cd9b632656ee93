use Rattle.std.proofs.Common.{refl, arith}
use Rattle.cert_values.specs.Wholes.{IsWholeLine}
use Rattle.cert_values.proofs.EachItem.{each_item}
use Rattle.cert_text.proofs.listing.push_grounds.Goals as goal

pub push_ground-requires : goal.push_ground-requires
push_ground-requires c = each_item (IsWholeLine c.args.bank.now) c.args.lines.now c.args.lines.now c.loop-i.i c.index-lines-i.result c.requires refl (omega arith) c.index-lines-i.is
