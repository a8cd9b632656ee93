use Rattle.std.proofs.Common.{◌++◌, ap, ◌∙◌}
use Rattle.inst_logic.specs.Printing.{clause_text}
use Rattle.tptp_write.proofs.ReadAgain.{text_read_again}
use Rattle.tptp_write.proofs.clauses.clause_text.Goals as goal

pub returns-clause-read_again : goal.returns-clause-read_again
returns-clause-read_again c =
    text_read_again c.from.result c.args.c.now
    (c.from.ensures ∙ (c.in_ok-push_clause.ensures ∙ ap (λ bs. bs ++ clause_text c.args.c.now) c.new-text.ensures.items))
