use Rattle.std.proofs.Common.{◌∙◌, ap, map, ℕ, reverse, List, ◌++◌}
use Rattle.inst_logic.specs.declared.signed.Signed.{Signed}
use Rattle.clause_form.specs.declared.walk.Step.{Step}
use Rattle.clause_form.specs.Walks.{numbers_of, trees_on}
use Rattle.clause_form.proofs.Stacks.{visits}
use Rattle.clause_form.proofs.Running.{beginning, visits_within, if_ended}
use Rattle.clause_form.proofs.walk.build_atoms_in.Goals as goal

pub run_steps-requires-clause-nodes : goal.run_steps-requires-clause-nodes
run_steps-requires-clause-nodes c =
    visits_within c.args.bank.now c.args.side (map (λ (l : Signed ℕ). l.atom) c.args.literals.now) (reverse c.push_atom_visits.new.steps.items) (c.in_ok-push_atom_visits.ensures ∙ ap (λ (ss : List Step). visits c.args.side (map (λ (l : Signed ℕ). l.atom) c.args.literals.now) ++ reverse ss) c.in_ok-start.ensures.steps) c.requires.ids

pub returns-clause-built : goal.returns-clause-built
returns-clause-built c =
    if_ended _ _ c.run_steps.result c.run_steps.ensures.built
    (λ made r final reading met.
    let begin = beginning c.args.bank.now r final c.args.side (map (λ (l : Signed ℕ). l.atom) c.args.literals.now) (numbers_of c.start.new.self.order) (reverse c.push_atom_visits.new.steps.items)
    (c.in_ok-push_atom_visits.ensures ∙ ap (λ (ss : List Step). visits c.args.side (map (λ (l : Signed ℕ). l.atom) c.args.literals.now) ++ reverse ss) c.in_ok-start.ensures.steps) (ap numbers_of c.in_ok-start.ensures.order) met in
    (made r (trees_on r c.args.side (map (λ (l : Signed ℕ). l.atom) c.args.literals.now)) final reading begin).0)

pub returns-clause-formed : goal.returns-clause-formed
returns-clause-formed c r final reading met fr old =
    let begin = beginning c.args.bank.now r final c.args.side (map (λ (l : Signed ℕ). l.atom) c.args.literals.now) (numbers_of c.start.new.self.order) (reverse c.push_atom_visits.new.steps.items)
    (c.in_ok-push_atom_visits.ensures ∙ ap (λ (ss : List Step). visits c.args.side (map (λ (l : Signed ℕ). l.atom) c.args.literals.now) ++ reverse ss) c.in_ok-start.ensures.steps) (ap numbers_of c.in_ok-start.ensures.order) met in
    c.run_steps.ensures.formed r (trees_on r c.args.side (map (λ (l : Signed ℕ). l.atom) c.args.literals.now)) final reading begin fr old
