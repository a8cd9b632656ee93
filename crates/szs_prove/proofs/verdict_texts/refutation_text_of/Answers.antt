use Rattle.std.proofs.Common.{◌≡◌, ℕ, List, IfOk, subst}
use Rattle.cert_format.specs.Text.{written_text}
use Rattle.cert_front.specs.Kinds.{refutation_value}
use Rattle.szs_prove.proofs.verdict_texts.refutation_text_of.Goals as goal

pub returns : goal.returns
returns c = subst (λ (n : List ℕ). IfOk c.refutation_text-text.result (λ text. text ≡ written_text n (refutation_value c.args.cert))) c.as_bytes.ensures.value c.refutation_text-text.ensures.text
