use Rattle.term_bank.specs.Forest.{Extends, AreFormed}
use Rattle.clause_form.specs.Conclusions.{AreVariables}
use Rattle.cert_check.proofs.source.own_variables.Given as goal

abbrev pub invariant-loop-v : goal.invariant-loop-v
invariant-loop-v l = record {
  extends : Extends l.fn.bank l.bank;
  variables : AreVariables l.bank l.v l.ids;
  formed : AreFormed l.fn.bank → AreFormed l.bank;
}
