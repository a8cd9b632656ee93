use Rattle.std.proofs.Common.{◌≡◌, ℕ, zero, suc, List, [], Option, None, refl, ap, ◌∙◌}
use Rattle.inst_logic.specs.declared.signed.Signed.{Signed}
use Rattle.cdcl_trail.specs.Clauses.{clause_number}
use Rattle.worked_solvers.proofs.trails.make_trail.Goals as goal

none : (n : ℕ) → clause_number [] n ≡ None
none zero = refl
none (suc n) = refl

pub returns-clause-attached : goal.returns-clause-attached
returns-clause-attached c = c.new.ensures.attached c.args.clauses.now (λ n. ap (λ (cs : List (Option (List (Signed ℕ)))). clause_number cs n) c.requires ∙ none n)
