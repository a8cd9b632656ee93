use Rattle.std.proofs.Common.{◌∙◌, ap}
use Rattle.cert_values.specs.Values.{refutation_of}
use Rattle.szs_prove.specs.Sizes.{size_of}
use Rattle.szs_prove.proofs.Decided.{refuted_in}
use Rattle.szs_prove.proofs.deciding.decided_size.Goals as goal

pub returns : goal.returns
returns c = refuted_in c.args._p.now c.args.decision.now _ c.size_of.result c.requires.decision c.in-Unsatisfiable.is (c.size_of.ensures ∙ ap (λ r. size_of (refutation_of r)) c.cert.ensures.is)
