use Rattle.term_bank.proofs.Cuts.{cut_back, on_err}
use Rattle.term_bank.proofs.bank.Bank.clause.Goals as goal

pub returns-then-is_err-clause-held : goal.returns-then-is_err-clause-held
returns-then-is_err-clause-held c =
    on_err _ c.interned_clause-result.result (cut_back c.args.self.now c.interned_clause-result.new.bank c.give_up.new.self c.len-len.result c.len-len.ensures.len c.interned_clause-result.ensures.extends c.give_up.ensures.trees)
