use Rattle.std.proofs.Common.{◌≡◌, ◌++◌, [], ◌∷◌, drop, map, codes}
use Rattle.inst_logic.specs.Printing.{joined, tree_text}
use Rattle.term_bank.specs.Forest.{tree_at}
use Rattle.cert_text.proofs.lists.push_following_terms.Given as goal

abbrev pub invariant-loop-id : goal.invariant-loop-id
invariant-loop-id l =
    l.pen ++ joined (codes ",") ([] ∷ map tree_text (map (tree_at l.bank) (drop l.id-index l.rest)))
    ≡ l.initial.pen ++ joined (codes ",") ([] ∷ map tree_text (map (tree_at l.bank) l.rest))
