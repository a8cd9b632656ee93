use Rattle.std.proofs.lemmas.Result.{IfOk-weaker}
use Rattle.cert_values.specs.Values.{refutation_of}
use Rattle.cert_front.proofs.Rewritings.{own_text}
use Rattle.cert_front.proofs.rewriting.RefutationRewritable.new_text.Goals as goal

pub returns : goal.returns
returns c =
    IfOk-weaker c.refutation_text-text.result _ _ (λ text is. own_text c.args.name.now text (refutation_of c.args.checked) c.requires.printable.0 c.requires.printable.1 is) c.refutation_text-text.ensures.text
