use Rattle.std.proofs.lemmas.Result.{IfOk-weaker}
use Rattle.cert_values.specs.Values.{first_of, refutation_of}
use Rattle.cert_front.proofs.Rewritings.{NamesArePrintable, upgraded_text}
use Rattle.cert_front.proofs.rewriting.FirstRefutationRewritable.new_text.Goals as goal

pub returns : goal.returns
returns c =
    let laws : NamesArePrintable = record { covers = c.names_are_printable.ensures.covers; lines = c.names_are_printable.ensures.lines } in
    IfOk-weaker c.valid_text.result _ _
    (λ text is. upgraded_text laws c.args.name.now text (first_of c.args.checked) (refutation_of c.in_ok-cert.cert) c.requires.printable.0 c.requires.valid c.requires.printable.1 c.in_ok-cert.ensures.upgrade c.refutation_numbers.ensures is)
    c.valid_text.ensures
