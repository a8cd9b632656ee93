use Rattle.std.proofs.Common.{refl, arith}
use Rattle.cert_values.specs.Wholes.{IsWholeClause}
use Rattle.cert_values.specs.declared.member.Member.{Member}
use Rattle.cert_values.proofs.EachItem.{each_item}
use Rattle.cert_text.proofs.listing.push_members.Goals as goal

pub push_member-requires : goal.push_member-requires
push_member-requires c = (each_item (λ (x : Member). IsWholeClause c.args.bank.now x.clause) c.args.members.now c.args.members.now c.loop-i.i c.index-members-i.result c.requires refl (omega arith) c.index-members-i.is).ids
