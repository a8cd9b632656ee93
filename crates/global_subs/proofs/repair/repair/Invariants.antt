use Rattle.std.proofs.Common.{◌≡◌, length}
use Rattle.global_subs.specs.Keeping.{AreKeptBy}
use Rattle.global_subs.proofs.repair.repair.Given as goal

abbrev pub invariant-loop : goal.invariant-loop
invariant-loop l = record {
  kept : AreKeptBy l.clauses l.witnesses;
  width : length l.witnesses.values ≡ length l.initial.witnesses.values;
}
