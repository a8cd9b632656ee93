use Rattle.std.proofs.Common.{subst}
use Rattle.std.proofs.lemmas.Result.{IfOk-weaker}
use Rattle.cert_format.specs.Printable.{CoveredFits}
use Rattle.cert_values.specs.declared.certificate.Covered.{Covered}
use Rattle.cert_values.specs.Values.{covered_of}
use Rattle.cert_values.specs.Wholes.{IsWholeCovered}
use Rattle.std.proofs.Common.{sym}
use Rattle.cert_front.proofs.Rewritings.{NamesArePrintable, covered_text}
use Rattle.cert_front.proofs.rewriting.UncoveredRewritable.new_text.Goals as goal

pub covered_numbers-requires : goal.covered_numbers-requires
covered_numbers-requires c = subst IsWholeCovered (sym c.cert.ensures.is) c.cert.ensures.whole

pub returns : goal.returns
returns c =
    let laws : NamesArePrintable = record { covers = c.names_are_printable.ensures.covers; lines = c.names_are_printable.ensures.lines } in
    let fits = subst (λ (x : Covered). CoveredFits (covered_of x)) c.cert.ensures.is c.covered_numbers.ensures in
    IfOk-weaker c.covered_text-text.result _ _ (λ text is. covered_text laws c.args.name.now text (covered_of c.args.checked) c.requires.printable.0 c.cert.ensures.named c.requires.printable.1 fits is) c.covered_text-text.ensures.text
