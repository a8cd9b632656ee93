use Rattle.std.proofs.Common.{◌∙◌, List, length, ap, sym, subst}
use Rattle.std.proofs.lemmas.Result.{IfOk-weaker}
use Rattle.cert_index.specs.Narrow.{AreNarrow}
use Rattle.cert_index.specs.Partners.{Head}
use Rattle.cert_index.proofs.narrow.find_classes.Goals as goal

pub returns-clause-narrow : goal.returns-clause-narrow
returns-clause-narrow c =
    IfOk-weaker c.through_heads.result _ _ (λ p h. subst (AreNarrow c.args.heads.now c.args.fingerprints.now) (sym h.0) c.in_ok-narrow.ensures.narrow) c.through_heads.ensures

pub returns-clause-count : goal.returns-clause-count
returns-clause-count c =
    IfOk-weaker c.through_heads.result _ _ (λ p h. ap (λ (hs : List Head). length hs) h.0 ∙ c.in_ok-narrow.ensures.count) c.through_heads.ensures
