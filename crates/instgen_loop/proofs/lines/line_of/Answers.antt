use Rattle.std.proofs.Common.{◌≡◌, Some, sym, ap, ◌∙◌, subst, List, ℕ, length, ◌≤◌}
use Rattle.inst_logic.specs.declared.signed.Signed.{Signed}
use Rattle.inst_logic.specs.Clauses.{order_of, IsCanonical}
use Rattle.inst_logic.specs.Derivations.{at_number}
use Rattle.term_bank.specs.Forest.{IsClauseOf, clause_at}
use Rattle.instgen_loop.specs.Lines.{given_of}
use Rattle.instgen_loop.proofs.LineLaws.{clause_ids, clause_canonical, enough, line_is, number_within}
use Rattle.instgen_loop.proofs.lines.line_of.Goals as goal

pub clause_of-requires : goal.clause_of-requires
clause_of-requires c = number_within c.args.bank.now c.args.given.now c.args.item c.requires.item

pub under-requires-clause-clause : goal.under-requires-clause-clause
under-requires-clause-clause c =
    subst (IsClauseOf c.args.bank.now) (sym c.in_ok-clause.ensures) (clause_ids c.args.bank.now c.args.given.now c.args.item c.clause_of.result.now c.clause_of.ensures c.requires.given)

pub under-requires-clause-canonical : goal.under-requires-clause-canonical
under-requires-clause-canonical c =
    subst (λ (d : List (Signed ℕ)). IsCanonical (clause_at c.args.bank.now d)) (sym c.in_ok-clause.ensures)
    (clause_canonical c.args.bank.now c.args.given.now c.args.item c.clause_of.result.now c.clause_of.ensures c.requires.given)

pub under-requires-clause-each : goal.under-requires-clause-each
under-requires-clause-each c =
    subst (λ (d : List (Signed ℕ)). length (order_of (clause_at c.args.bank.now d)) ≤ length c.args.item.terms) (sym c.in_ok-clause.ensures)
    (enough c.args.bank.now c.args.given.now c.args.item c.clause_of.result.now c.clause_of.ensures c.requires.item)

pub returns-clause-line : goal.returns-clause-line
returns-clause-line c =
    let here : at_number (given_of c.args.given.now) c.args.item.input ≡ Some c.in_ok-clause.clause = c.clause_of.ensures ∙ ap (λ (d : List (Signed ℕ)). Some d) (sym c.in_ok-clause.ensures) in
    line_is c.args.bank.now c.args.given.now c.args.item c.in_ok-clause.clause here c.under.new.bank c.in_ok-clause-2.clause c.under.ensures.extends c.requires.ids c.requires.given c.requires.item
    c.in_ok-clause-2.ensures.instance
