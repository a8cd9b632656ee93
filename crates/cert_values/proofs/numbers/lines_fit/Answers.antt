use Rattle.std.proofs.Common.{arith}
use Rattle.std.proofs.lemmas.List.Elements.{All-map}
use Rattle.cert_format.specs.Printable.{LineFits}
use Rattle.cert_values.specs.Values.{line_of}
use Rattle.cert_values.specs.Wholes.{IsWholeLine}
use Rattle.cert_values.specs.declared.certificate.GroundLine.{GroundLine}
use Rattle.cert_values.proofs.EachItem.{each_item, each_more, each_read}
use Rattle.cert_values.proofs.numbers.lines_fit.Goals as goal

pub line_fits-requires : goal.line_fits-requires
line_fits-requires c = (each_item (IsWholeLine c.args.bank.now) c.args.lines.now c.as_slice-line-items.result.now c.loop-line.line-index c.line-item.result c.requires c.as_slice-line-items.ensures (omega (arith, c.loop-line-test.true)) c.line-item.is)

pub loop-line-preserved : goal.loop-line-preserved
loop-line-preserved c = each_more (λ (x : GroundLine). LineFits (line_of c.args.bank.now x)) c.as_slice-line-items.result.now c.loop-line.line-index c.line-item.result c.loop-line.invariant c.line_fits.ensures (omega (arith, c.loop-line-test.true)) c.line-item.is

pub returns-clause-each : goal.returns-clause-each
returns-clause-each c = All-map LineFits (line_of c.args.bank.now) c.args.lines.now (each_read (λ (x : GroundLine). LineFits (line_of c.args.bank.now x)) c.args.lines.now c.as_slice-line-items.result.now c.loop-line.line-index c.loop-line.invariant c.as_slice-line-items.ensures (omega (arith, c.loop-line-test.false)))
