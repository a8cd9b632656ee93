use Rattle.std.proofs.Common.{ℕ, List}
use Rattle.inst_logic.specs.declared.signed.Signed.{Signed}
use Rattle.term_bank.proofs.Clauses.{lists_extend, list_trees_extend, list_atoms_extend, list_pushed, list_trees_pushed}
use Rattle.term_bank.proofs.laws.lists_stay.Goals as goal

pub returns-clause-ids : goal.returns-clause-ids
returns-clause-ids c f g cs e = lists_extend (λ (d : List (Signed ℕ)). d) f g e cs

pub returns-clause-trees : goal.returns-clause-trees
returns-clause-trees c f g cs e = list_trees_extend (λ (d : List (Signed ℕ)). d) f g e cs

pub returns-clause-atoms : goal.returns-clause-atoms
returns-clause-atoms c f g cs e = list_atoms_extend (λ (d : List (Signed ℕ)). d) f g e cs

pub returns-clause-one_more : goal.returns-clause-one_more
returns-clause-one_more c f g cs d e = list_pushed (λ (x : List (Signed ℕ)). x) f g e cs d

pub returns-clause-one_more_tree : goal.returns-clause-one_more_tree
returns-clause-one_more_tree c f g cs d e = list_trees_pushed (λ (x : List (Signed ℕ)). x) f g e cs d
