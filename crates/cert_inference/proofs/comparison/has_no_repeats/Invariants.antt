use Rattle.std.proofs.Common.{◌≡◌, take}
use Rattle.inst_logic.specs.Lists.{distinct}
use Rattle.clause_form.specs.Literals.{id_eq}
use Rattle.cert_inference.proofs.comparison.has_no_repeats.Given as goal

abbrev pub invariant-loop-i : goal.invariant-loop-i
invariant-loop-i l = distinct id_eq (take l.i l.literals) ≡ take l.i l.literals
