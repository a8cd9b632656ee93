use Rattle.std.proofs.Common.{◌≡◌, take}
use Rattle.inst_logic.specs.Lists.{distinct}
use Rattle.clause_form.specs.Literals.{id_eq}
use Rattle.clause_form.proofs.complements.set_of.Given as goal

abbrev pub invariant-loop-l : goal.invariant-loop-l
invariant-loop-l l = l.all.keys ≡ distinct id_eq (take l.l-index l.literals)
