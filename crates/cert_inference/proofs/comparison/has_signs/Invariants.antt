use Rattle.std.proofs.Common.{◌≡◌, map, take}
use Rattle.clause_form.specs.Literals.{with_atoms}
use Rattle.cert_inference.proofs.comparison.has_signs.Given as goal

abbrev pub invariant-loop-i : goal.invariant-loop-i
invariant-loop-i l = with_atoms (take l.i l.literals) (map (λ l. l.atom) (take l.i l.others)) ≡ take l.i l.others
