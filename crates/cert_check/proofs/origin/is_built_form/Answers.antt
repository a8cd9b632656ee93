use Rattle.cert_check.proofs.OriginLemmas.{same_form}
use Rattle.cert_check.proofs.origin.is_built_form.Goals as goal

pub returns-clause-same : goal.returns-clause-same
returns-clause-same c =
    let k = same_form c.args.bank.now c.canonical.new.bank c.canonical.ensures.extends c.distinct.ensures c.args.from.now c.args.clause.now c.in_ok-d.d c.requires.clause c.in_ok-d.ensures.canonical.0 c.in_ok-d.ensures.canonical.1 in
    (λ t. k.0 (c.same_clause.ensures.0 t), λ e. c.same_clause.ensures.1 (k.1 e))
