use Rattle.std.proofs.Common.{refl, arith}
use Rattle.cert_values.specs.Wholes.{IsWholeCover}
use Rattle.cert_values.proofs.EachItem.{each_item}
use Rattle.cert_text.proofs.listing.push_covers.Goals as goal

pub push_cover-requires : goal.push_cover-requires
push_cover-requires c = each_item (IsWholeCover c.args.bank.now) c.args.covers.now c.args.covers.now c.loop-i.i c.index-covers-i.result c.requires refl (omega arith) c.index-covers-i.is
