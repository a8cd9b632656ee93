use Rattle.std.proofs.Common.{sym, subst}
use Rattle.inst_logic.specs.Clauses.{IsCanonical}
use Rattle.inst_calculus.proofs.CanonicalForms.{canonical_of_canonical}
use Rattle.term_bank.specs.Forest.{clause_at}
use Rattle.unify_core.proofs.Lists.{if_ok}
use Rattle.worked_terms.proofs.conclusions.form_of.Goals as goal

pub returns-clause-within : goal.returns-clause-within
returns-clause-within c = if_ok _ _ c.canonical.result c.canonical.ensures.canonical (λ d at. at.0)

pub returns-clause-canonical : goal.returns-clause-canonical
returns-clause-canonical c =
    if_ok _ _ c.canonical.result c.canonical.ensures.canonical (λ d at. subst IsCanonical (sym at.1) (canonical_of_canonical (clause_at c.args.bank.now c.args.c.now)))
