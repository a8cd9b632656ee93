use Rattle.std.proofs.Common.{◌∙◌, ap, nat_eq, List, ℕ}
use Rattle.inst_logic.specs.declared.signed.Signed.{Signed}
use Rattle.inst_logic.specs.Equal.{signed_eq}
use Rattle.inst_logic.specs.Lists.{distinct}
use Rattle.ground_abs.proofs.DistinctLiterals.{repeats_dropped}
use Rattle.ground_abs.proofs.abstraction.ground_clause.Goals as goal

pub returns-clause-abstraction : goal.returns-clause-abstraction
returns-clause-abstraction c =
    repeats_dropped c.args.bank.now c.literals.new.bank c.args.grounding.now.bot c.args.c.now c.in_ok-literals.literals.items c.in_ok-clause.clause c.distinct.ensures c.in_ok-literals.ensures.at
    (c.in_ok-clause.ensures ∙ ap (λ (ls : List (Signed ℕ)). distinct (signed_eq nat_eq) ls) c.deref.ensures.value)
