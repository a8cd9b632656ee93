use Rattle.std.proofs.Common.{subst, sym, List, ℕ}
use Rattle.inst_logic.specs.declared.signed.Signed.{Signed}
use Rattle.inst_calculus.specs.Abstraction.{abstract_literals}
use Rattle.term_bank.specs.Forest.{IsClauseAt, clause_at}
use Rattle.ground_abs.proofs.Atoms.{numbered_fit}
use Rattle.ground_abs.proofs.Numbered.{are_named, are_numbered}
use Rattle.ground_abs.proofs.abstraction.number_literals.Goals as goal

pub returns-clause-literals : goal.returns-clause-literals
returns-clause-literals c =
    let g = c.literals.new.bank in
    let ts = abstract_literals c.args.grounding.now.bot (clause_at c.args.bank.now c.args.c.now) in
    let at = subst (λ (ls : List (Signed ℕ)). IsClauseAt g ls ts) (sym c.deref.ensures.value) c.in_ok-literals.ensures.at in
    are_named g c.numbered_literals.new.ids c.numbered_literals.new.lits.items c.deref.result.now ts c.in_ok-numbered_literals.ensures.named c.in_ok-numbered_literals.ensures.below at

pub returns-clause-numbered : goal.returns-clause-numbered
returns-clause-numbered c =
    let g = c.literals.new.bank in
    let ts = abstract_literals c.args.grounding.now.bot (clause_at c.args.bank.now c.args.c.now) in
    let at = subst (λ (ls : List (Signed ℕ)). IsClauseAt g ls ts) (sym c.deref.ensures.value) c.in_ok-literals.ensures.at in
    are_numbered g c.args.ids.now c.numbered_literals.new.ids c.deref.result.now ts c.in_ok-numbered_literals.ensures.numbered at

pub returns-clause-fits : goal.returns-clause-fits
returns-clause-fits c = λ constant atoms fit.
    let g = c.literals.new.bank in
    let ts = abstract_literals c.args.grounding.now.bot (clause_at c.args.bank.now c.args.c.now) in
    let at = subst (λ (ls : List (Signed ℕ)). IsClauseAt g ls ts) (sym c.deref.ensures.value) c.in_ok-literals.ensures.at in
    numbered_fit c.args.bank.now g c.args.grounding.now.bot c.args.c.now c.args.ids.now c.numbered_literals.new.ids constant c.literals.ensures.goes.extends c.distinct.ensures atoms fit
    (are_numbered g c.args.ids.now c.numbered_literals.new.ids c.deref.result.now ts c.in_ok-numbered_literals.ensures.numbered at)
