use Rattle.cert_check.proofs.OriginLemmas.{own_form}
use Rattle.cert_check.proofs.origin.is_own_form.Goals as goal

pub returns : goal.returns
returns c =
    let k = own_form c.args.bank.now c.distinct.ensures c.args.from.now c.args.clause.now c.requires.from c.requires.clause c.requires.form in
    ((λ t. k.0 (c.same_clause.ensures.0 t)), (λ e. c.same_clause.ensures.1 (k.1 e)))
