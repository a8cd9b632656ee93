use Rattle.std.proofs.Common.{sym, subst, ℕ, List}
use Rattle.std.specs.Prelude.{All}
use Rattle.term_bank.specs.Forest.{IsClauseOf}
use Rattle.inst_logic.specs.declared.signed.Signed.{Signed}
use Rattle.term_bank.proofs.Clauses.{list_pushed}
use Rattle.worked_terms.proofs.building.add_clause.Goals as goal

pub returns-in_ok-push-clause-ids : goal.returns-in_ok-push-clause-ids
returns-in_ok-push-clause-ids c =
    let g = c.clause.new.self in
    subst (All (IsClauseOf g)) (sym c.in_ok-push.ensures.ok) (list_pushed (λ (x : List (Signed ℕ)). x) c.args.bank.now g c.clause.ensures.extends c.args.ids.now c.in_ok-clause.field-0 c.requires c.in_ok-clause.ensures.at.0)
