use Rattle.std.proofs.Common.{sym, ◌∙◌, Some, subst}
use Rattle.inst_logic.specs.Substitution.{clause_vars}
use Rattle.term_bank.specs.Forest.{clause_at}
use Rattle.term_bank.specs.Greatest.{IsGreatest}
use Rattle.clause_form.proofs.Greatest.{variables_up_to}
use Rattle.instgen_loop.proofs.part_terms.count_of.Goals as goal

pub returns-in-Some-checked_add : goal.returns-in-Some-checked_add
returns-in-Some-checked_add c =
    c.in-Some-checked_add.ensures.1
    ∙ sym (variables_up_to (clause_at c.args.bank.now c.args.c.now) (Some c.in-Some.last) c.requires.canonical (subst (IsGreatest (clause_vars (clause_at c.args.bank.now c.args.c.now))) c.in-Some.is c.greatest_variable.ensures))
