use Rattle.std.proofs.Common.{◌≡◌, map, nat_eq, take}
use Rattle.inst_logic.specs.Equal.{signed_eq}
use Rattle.inst_logic.specs.Lists.{distinct}
use Rattle.ground_abs.specs.Numbers.{named}
use Rattle.instgen_loop.proofs.steps.ground_clause.Given as goal

abbrev pub invariant-loop-i : goal.invariant-loop-i
invariant-loop-i l = record {
  same : l.clause ≡ l.seen.keys;
  made : l.seen.keys ≡ distinct (signed_eq nat_eq) (map (named l.abstraction.ids) (take l.i l.literals));
}
