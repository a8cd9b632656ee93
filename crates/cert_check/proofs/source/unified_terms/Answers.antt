use Rattle.std.proofs.Common.{inl}
use Rattle.cert_check.proofs.source.unified_terms.Goals as goal

pub returns-clause-ids : goal.returns-clause-ids
returns-clause-ids c k d l =
    let terms = c.in_ok-unify.ensures.terms c.if-not-branch.false (inl (c.requires.left.atom, c.requires.right.atom)) in
    record { within = c.in_ok-conclusion.ensures.term_ids k d l; term = c.in_ok-conclusion.ensures.terms terms k d l }
