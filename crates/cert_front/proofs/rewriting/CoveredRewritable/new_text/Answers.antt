use Rattle.std.proofs.lemmas.Result.{IfOk-weaker}
use Rattle.cert_values.specs.Values.{covered_of}
use Rattle.cert_front.proofs.Rewritings.{named_text}
use Rattle.cert_front.proofs.rewriting.CoveredRewritable.new_text.Goals as goal

pub returns : goal.returns
returns c =
    IfOk-weaker c.covered_text-text.result _ _ (λ text is. named_text c.args.name.now text (covered_of c.args.checked) c.requires.printable.0 c.requires.printable.1 is) c.covered_text-text.ensures.text
