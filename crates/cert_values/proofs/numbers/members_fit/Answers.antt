use Rattle.std.proofs.Common.{arith}
use Rattle.std.proofs.lemmas.List.Elements.{All-map}
use Rattle.cert_format.specs.Printable.{EntryFits}
use Rattle.cert_values.specs.Values.{entry_of}
use Rattle.cert_values.specs.Wholes.{IsWholeClause}
use Rattle.cert_values.specs.declared.member.Member.{Member}
use Rattle.cert_values.proofs.EachItem.{each_item, each_more, each_read}
use Rattle.cert_values.proofs.numbers.members_fit.Goals as goal

pub member_fits-requires : goal.member_fits-requires
member_fits-requires c = (each_item (λ (x : Member). IsWholeClause c.args.base.now.bank x.clause) c.args.base.now.members c.as_slice-member-items.result.now c.loop-member.member-index c.member-item.result c.requires c.as_slice-member-items.ensures (omega (arith, c.loop-member-test.true)) c.member-item.is)

pub loop-member-preserved : goal.loop-member-preserved
loop-member-preserved c = each_more (λ (x : Member). EntryFits (entry_of c.args.base.now.bank x)) c.as_slice-member-items.result.now c.loop-member.member-index c.member-item.result c.loop-member.invariant c.member_fits.ensures (omega (arith, c.loop-member-test.true)) c.member-item.is

pub returns-clause-each : goal.returns-clause-each
returns-clause-each c = All-map EntryFits (entry_of c.args.base.now.bank) c.args.base.now.members (each_read (λ (x : Member). EntryFits (entry_of c.args.base.now.bank x)) c.args.base.now.members c.as_slice-member-items.result.now c.loop-member.member-index c.loop-member.invariant c.as_slice-member-items.ensures (omega (arith, c.loop-member-test.false)))
