use Rattle.term_bank.proofs.bank.Bank.var.Goals as goal

pub returns-clause-formed : goal.returns-clause-formed
returns-clause-formed c = rw (← c.self.view_is) c.insert_variable-result.ensures.formed
