use Rattle.dimacs_front.proofs.DimacsLaws as laws
use Rattle.dimacs_front.proofs.laws.read_or_refused.Goals as goal

pub returns-clause-same : goal.returns-clause-same
returns-clause-same c = λ text e. (laws.refusal_is_read text e, laws.read_is_refusal text e)

pub returns-clause-some : goal.returns-clause-some
returns-clause-some c = laws.read_or_refused

pub returns-clause-not_both : goal.returns-clause-not_both
returns-clause-not_both c = laws.not_both

pub returns-clause-one : goal.returns-clause-one
returns-clause-one c = laws.one_refusal

pub returns-clause-never_twice : goal.returns-clause-never_twice
returns-clause-never_twice c = laws.never_twice
