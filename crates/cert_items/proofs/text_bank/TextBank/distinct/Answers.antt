use Rattle.std.proofs.Common.{◌≡◌, List, ℕ, subst}
use Rattle.inst_logic.specs.declared.signed.Signed.{Signed}
use Rattle.term_bank.specs.Forest.{Forest, IsClauseOf, clause_at}
use Rattle.clause_form.proofs.Ids.{same_ids}
use Rattle.cert_items.proofs.text_bank.TextBank.distinct.Goals as goal

pub returns : goal.returns
returns c = subst (λ (f : Forest). (c d : List (Signed ℕ)) → IsClauseOf f c → IsClauseOf f d → clause_at f c ≡ clause_at f d → c ≡ d) c.self.view_is (same_ids c.self.inside.bank c.distinct.ensures)
