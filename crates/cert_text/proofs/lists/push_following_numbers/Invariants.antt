use Rattle.std.proofs.Common.{◌≡◌, ◌++◌, [], ◌∷◌, drop, map, codes, decimal}
use Rattle.inst_logic.specs.Printing.{joined}
use Rattle.cert_text.proofs.lists.push_following_numbers.Given as goal

abbrev pub invariant-loop-n : goal.invariant-loop-n
invariant-loop-n l =
    l.pen ++ joined (codes ",") ([] ∷ map (λ p. l.mark ++ p) (map decimal (drop l.n-index l.rest)))
    ≡ l.initial.pen ++ joined (codes ",") ([] ∷ map (λ p. l.mark ++ p) (map decimal l.rest))
