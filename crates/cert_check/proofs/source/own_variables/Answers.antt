use Rattle.std.proofs.Common.{◌≡◌, ℕ, List, subst, sym, ◌+◌, arith, length, Some}
use Rattle.inst_logic.specs.Clauses.{order_of}
use Rattle.term_bank.specs.Forest.{Forest, clause_at}
use Rattle.term_bank.proofs.Growth.{extends_trans}
use Rattle.clause_form.specs.Conclusions.{AreVariables}
use Rattle.clause_form.proofs.Greatest.{variables_up_to}
use Rattle.clause_form.proofs.Variables.{one_variable}
use Rattle.cert_check.proofs.source.own_variables.Goals.{else-loop-v-test, then-loop-v-test+in_ok-id+in_ok-push+else-v-last}
use Rattle.cert_check.proofs.source.own_variables.Goals as goal

moved : (f g : Forest) (m n : ℕ) (xs ys : List ℕ) → g ≡ f → n ≡ m → ys ≡ xs → AreVariables f m xs → AreVariables g n ys
moved f g m n xs ys bank count ids h =
    subst (λ (x : Forest). AreVariables x n ys) (sym bank) (subst (λ (k : ℕ). AreVariables f k ys) (sym count) (subst (λ (zs : List ℕ). AreVariables f m zs) (sym ids) h))

pub loop-v-preserved : goal.loop-v-preserved
loop-v-preserved c = record {
  extends = extends_trans c.args.bank.now c.loop-v.bank c.var.new.self c.loop-v.invariant.extends c.var.ensures.extends;
  variables = subst (AreVariables c.var.new.self (c.loop-v.v + 1)) (sym c.in_ok-push.ensures.ok) (one_variable c.loop-v.bank c.var.new.self c.loop-v.v c.in_ok-id.id c.loop-v.ids c.var.ensures.extends c.loop-v.invariant.variables c.in_ok-id.ensures.at);
  formed = λ old. c.var.ensures.formed (c.loop-v.invariant.formed old);
}

pub returns-clause-variables : goal.returns-clause-variables
returns-clause-variables c =
    let d = clause_at c.args.bank.now c.args.c.now in
    let count = variables_up_to d (Some c.in-Some.last) c.requires.canonical c.in-Some.ensures in
    elim c.loop-v-test.branch [
      | else-loop-v-test w ↦
          let n : length (order_of d) ≡ c.loop-v.v = omega (arith, count) in
          moved c.loop-v.bank c.loop-v-test.bank c.loop-v.v (length (order_of d)) c.loop-v.ids c.loop-v-test.ids w.bank-is n w.ids-is c.loop-v.invariant.variables
      | then-loop-v-test+in_ok-id+in_ok-push+else-v-last w ↦
          let n : length (order_of d) ≡ c.loop-v.v + 1 = omega (arith, count) in
          moved w.var.new.self c.loop-v-test.bank (c.loop-v.v + 1) (length (order_of d)) w.push.new.self c.loop-v-test.ids w.bank-is n w.ids-is
          (subst (AreVariables w.var.new.self (c.loop-v.v + 1)) (sym w.in_ok-push.ensures.ok) (one_variable c.loop-v.bank w.var.new.self c.loop-v.v w.in_ok-id.id c.loop-v.ids w.var.ensures.extends c.loop-v.invariant.variables w.in_ok-id.ensures.at))
    ]
