use Rattle.std.proofs.Common.{◌≡◌, length}
use Rattle.prop_logic.specs.Literal.{AtomsBelow}
use Rattle.global_subs.specs.Keeping.{AreKeptBy}
use Rattle.global_subs.proofs.force.make_all_false.Given as goal

abbrev pub invariant-loop-l : goal.invariant-loop-l
invariant-loop-l l = record {
  kept : AreKeptBy l.clauses l.witnesses;
  width : length l.witnesses.values ≡ length l.initial.witnesses.values;
  within : AtomsBelow (length l.initial.witnesses.values) l.c;
}
