use Rattle.std.proofs.Common.{◌≡◌, ◌++◌, [], ◌∷◌, drop, map, codes}
use Rattle.inst_logic.specs.Printing.{joined}
use Rattle.cert_format.specs.Lines.{hint_text}
use Rattle.cert_values.specs.Values.{hint_of}
use Rattle.cert_text.proofs.lines.push_following_hints.Given as goal

abbrev pub invariant-loop-hint : goal.invariant-loop-hint
invariant-loop-hint l =
    l.pen ++ joined (codes ",") ([] ∷ map hint_text (map hint_of (drop l.hint-index l.rest)))
    ≡ l.initial.pen ++ joined (codes ",") ([] ∷ map hint_text (map hint_of l.rest))
