use Rattle.std.proofs.Common.{arith}
use Rattle.std.proofs.lemmas.List.Elements.{All-map}
use Rattle.cert_format.specs.Printable.{CoverFits}
use Rattle.cert_values.specs.Values.{cover_of}
use Rattle.cert_values.specs.Wholes.{IsWholeCover}
use Rattle.cert_values.specs.declared.certificate.Cover.{Cover}
use Rattle.cert_values.proofs.EachItem.{each_item, each_more, each_read}
use Rattle.cert_values.proofs.numbers.covers_fit.Goals as goal

pub cover_fits-requires : goal.cover_fits-requires
cover_fits-requires c = (each_item (IsWholeCover c.args.bank.now) c.args.covers.now c.as_slice-cover-items.result.now c.loop-cover.cover-index c.cover-item.result c.requires c.as_slice-cover-items.ensures (omega (arith, c.loop-cover-test.true)) c.cover-item.is)

pub loop-cover-preserved : goal.loop-cover-preserved
loop-cover-preserved c = each_more (λ (x : Cover). CoverFits (cover_of c.args.bank.now x)) c.as_slice-cover-items.result.now c.loop-cover.cover-index c.cover-item.result c.loop-cover.invariant c.cover_fits.ensures (omega (arith, c.loop-cover-test.true)) c.cover-item.is

pub returns-clause-each : goal.returns-clause-each
returns-clause-each c = All-map CoverFits (cover_of c.args.bank.now) c.args.covers.now (each_read (λ (x : Cover). CoverFits (cover_of c.args.bank.now x)) c.args.covers.now c.as_slice-cover-items.result.now c.loop-cover.cover-index c.loop-cover.invariant c.as_slice-cover-items.ensures (omega (arith, c.loop-cover-test.false)))
