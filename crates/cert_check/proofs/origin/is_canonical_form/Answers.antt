use Rattle.cert_check.proofs.origin.is_canonical_form.Goals as goal

pub is_own_form-requires-clause-form : goal.is_own_form-requires-clause-form
is_own_form-requires-clause-form c = c.is_plain.ensures c.if-is_plain.true
