use Rattle.std.proofs.Common.{◌≡◌, IfOk, subst}
use Rattle.cert_format.specs.Certificate as format
use Rattle.cert_format.specs.Text.{written_text}
use Rattle.cert_front.proofs.rewriting.valid_text.Goals as goal

pub returns : goal.returns
returns c = subst (λ (r : format.Refutation). IfOk c.refutation_text-text.result (λ t. t ≡ written_text c.args.name.now (format.refutation r))) c.in_ok-checked.ensures c.refutation_text-text.ensures.text
