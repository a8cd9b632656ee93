use Rattle.std.proofs.Common.{◌≡◌, Some, None, Option, ℕ, subst, true}
use Rattle.term_bank.specs.Forest.{tree_at}
use Rattle.term_bank.specs.Greatest.{IsGreatest}
use Rattle.inst_logic.specs.Readable.{tree_fits}
use Rattle.inst_logic.specs.Substitution.{tree_vars}
use Rattle.inst_logic.specs.Tree.{Tree}
use Rattle.cert_values.proofs.Fitting.{greatest_fits, none_fits}
use Rattle.cert_values.proofs.numbers.atom_fits.Goals as goal

pub returns-in-Some : goal.returns-in-Some
returns-in-Some c =
    greatest_fits (tree_at c.args.bank.now c.args.atom) c.in-Some.v (subst (IsGreatest (tree_vars (tree_at c.args.bank.now c.args.atom))) c.in-Some.is c.greatest_variable.ensures) c.number_fits.ensures

by_option : (t : Tree) (o : Option ℕ) → IsGreatest (tree_vars t) o → ((v : ℕ) → ¬ (o ≡ Some v)) → tree_fits t ≡ true
by_option t None h n = none_fits t h
by_option t (Some v) h n = absurd (n v (λ i. Some v))

pub returns-in_default : goal.returns-in_default
returns-in_default c = by_option (tree_at c.args.bank.now c.args.atom) c.greatest_variable.result c.greatest_variable.ensures c.in_default.not-Some
