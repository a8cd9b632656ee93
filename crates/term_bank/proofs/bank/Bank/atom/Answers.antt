use Rattle.std.proofs.Common.{ap, ◌∙◌}
use Rattle.term_bank.specs.Forest.{Forest}
use Rattle.term_bank.proofs.Cuts.{cut_back, on_err, no_err}
use Rattle.term_bank.proofs.bank.Bank.atom.Goals as goal
use Rattle.term_bank.proofs.bank.Bank.atom.Goals.{then-is_err, else-is_err}

pub returns-clause-held : goal.returns-clause-held
returns-clause-held c =
    let result = c.interned_atom-result.result in
    let bank = c.interned_atom-result.new.bank in
    elim c.if-is_err.branch [
      | then-is_err w ↦ on_err _ result (ap (λ (f : Forest). f.trees) w.self-is ∙ cut_back c.args.self.now bank w.give_up.new.self c.len-len.result c.len-len.ensures.len c.interned_atom-result.ensures.extends w.give_up.ensures.trees)
      | else-is_err w ↦ no_err _ result w.if-is_err.ensures.value
    ]
