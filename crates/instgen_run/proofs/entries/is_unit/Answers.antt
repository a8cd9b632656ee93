use Rattle.std.proofs.Common.{◌≡◌, List, ℕ, Contains, nat_eq, subst}
use Rattle.std.proofs.lemmas.Bool.Decides.{Decides-eqb}
use Rattle.inst_logic.specs.EqualLaws.{signed_eq_decides}
use Rattle.inst_logic.specs.declared.signed.Signed.{Signed}
use Rattle.instgen_run.specs.Clauses.{Item}
use Rattle.instgen_run.proofs.Covers.{has_key}
use Rattle.instgen_run.proofs.entries.is_unit.Goals as goal

pub returns-clause-yes : goal.returns-clause-yes
returns-clause-yes g c = λ t.
    let es = c.args.entries.now.clauses.entries in
    subst (λ (d : List (Signed ℕ)). (e : Item) × Contains es e × (e.0 ≡ d)) c.in_ok-key.ensures
    ((has_key _ (signed_eq_decides nat_eq Decides-eqb) es c.in_ok-key.key.now c.contains_key.result c.contains_key.ensures).0 t)

pub returns-clause-no : goal.returns-clause-no
returns-clause-no g c = λ t still (e, i, one).
    let es = c.args.entries.now.clauses.entries in
    subst (λ (d : List (Signed ℕ)). (x : Item) → Contains es x → ¬ (x.0 ≡ d)) c.in_ok-key.ensures
    ((has_key _ (signed_eq_decides nat_eq Decides-eqb) es c.in_ok-key.key.now c.contains_key.result c.contains_key.ensures).1 t) e i one
