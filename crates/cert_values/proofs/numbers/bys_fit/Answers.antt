use Rattle.std.proofs.Common.{arith}
use Rattle.std.proofs.lemmas.List.Elements.{All-map}
use Rattle.cert_format.specs.Printable.{ByFits}
use Rattle.cert_values.specs.Values.{by_of}
use Rattle.cert_values.specs.declared.certificate.By.{By}
use Rattle.cert_values.proofs.EachItem.{each_more, each_read}
use Rattle.cert_values.proofs.numbers.bys_fit.Goals as goal

pub loop-by-preserved : goal.loop-by-preserved
loop-by-preserved c = each_more (λ (x : By). ByFits (by_of c.args.bank.now x)) c.as_slice-by-items.result.now c.loop-by.by-index c.by-item.result c.loop-by.invariant c.by_fits.ensures (omega (arith, c.loop-by-test.true)) c.by-item.is

pub returns-clause-each : goal.returns-clause-each
returns-clause-each c = All-map ByFits (by_of c.args.bank.now) c.args.bys.now (each_read (λ (x : By). ByFits (by_of c.args.bank.now x)) c.args.bys.now c.as_slice-by-items.result.now c.loop-by.by-index c.loop-by.invariant c.as_slice-by-items.ensures (omega (arith, c.loop-by-test.false)))
