use Rattle.std.proofs.Common.{arith}
use Rattle.std.proofs.lemmas.List.Elements.{All-map, All-more}
use Rattle.inst_calculus.specs.Steps.{Cited}
use Rattle.cert_format.specs.Printable.{IsNumber, cited_number}
use Rattle.cert_values.specs.Values.{hint_of}
use Rattle.cert_values.specs.declared.certificate.GroundHint.{GroundHint}
use Rattle.cert_values.proofs.EachItem.{each_read}
use Rattle.cert_values.proofs.numbers.step_fits.Goals as goal

pub loop-hint-preserved : goal.loop-hint-preserved
loop-hint-preserved c =
    All-more (λ (x : GroundHint). IsNumber (cited_number (hint_of x))) c.as_slice-hint-items.result.now c.loop-hint.hint-index _ (omega (arith, c.loop-hint-test.true)) c.loop-hint.invariant c.hint_fits.ensures

pub returns : goal.returns
returns c = record {
  clause = c.clause_fits.ensures;
  hints = All-map (λ (h : Cited). IsNumber (cited_number h)) hint_of c.args.step.now.hints (each_read (λ (x : GroundHint). IsNumber (cited_number (hint_of x))) c.args.step.now.hints c.as_slice-hint-items.result.now c.loop-hint.hint-index c.loop-hint.invariant c.as_slice-hint-items.ensures (omega (arith, c.loop-hint-test.false)));
}
