use Rattle.std.proofs.Common.{◌≡◌, ◌++◌, map, reverse, drop}
use Rattle.clause_form.specs.declared.walk.Step.TheVariants.{Visit}
use Rattle.clause_form.specs.Walks.{on}
use Rattle.clause_form.proofs.walk.push_atom_visits.Given as goal

abbrev pub invariant-loop-i : goal.invariant-loop-i
invariant-loop-i l = reverse l.steps.items ≡ map (λ a. Visit (on l.fn.side a)) (drop l.i (map (λ l. l.atom) l.literals)) ++ reverse l.initial.steps.items
