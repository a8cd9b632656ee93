use Rattle.std.proofs.Common.{List, ℕ, [], ◌∷◌, map, sym, subst}
use Rattle.inst_logic.specs.declared.symbol.Kind.TheVariants.{Equality}
use Rattle.inst_logic.specs.Tree.{app, of_list}
use Rattle.term_bank.specs.Forest.{tree_at, IsFormed}
use Rattle.cert_items.proofs.Formed.{equation_formed}
use Rattle.cert_items.proofs.literals.equation.Goals as goal

pub returns-clause-grows : goal.returns-clause-grows
returns-clause-grows c = (
  c.app.ensures.extends,
  λ old. c.app.ensures.formed old
      (subst (λ (n : List ℕ). IsFormed (app (record { kind = Equality; name = n; arity = 2 }) (of_list (map (tree_at c.args.bank.now) (c.args.left ∷ c.args.right ∷ []))))) (sym c.in_ok-name.ensures)
      (equation_formed c.args.bank.now c.args.left c.args.right c.requires.terms.0 c.requires.terms.1)),
)

pub returns-in_err-atom-clause-grows : goal.returns-in_err-atom-clause-grows
returns-in_err-atom-clause-grows c = (
  c.app.ensures.extends,
  λ old. c.app.ensures.formed old
      (subst (λ (n : List ℕ). IsFormed (app (record { kind = Equality; name = n; arity = 2 }) (of_list (map (tree_at c.args.bank.now) (c.args.left ∷ c.args.right ∷ []))))) (sym c.in_ok-name.ensures)
      (equation_formed c.args.bank.now c.args.left c.args.right c.requires.terms.0 c.requires.terms.1)),
)
