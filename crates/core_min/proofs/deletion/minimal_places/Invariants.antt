use Rattle.std.proofs.Common.{◌≡◌, ◌-◌, vec_len}
use Rattle.core_min.specs.Cores.{IsPartlyMinimal}
use Rattle.core_min.proofs.deletion.minimal_places.Given as goal

abbrev pub invariant-loop-done : goal.invariant-loop-done
invariant-loop-done g l = record {
  same : g.T.SubListTest.clauses l.test ≡ g.T.SubListTest.clauses l.initial.test;
  partly : IsPartlyMinimal (g.T.SubListTest.clauses l.initial.test) l.places.items l.done;
}

abbrev pub decreases-loop-done : goal.decreases-loop-done
decreases-loop-done g l = vec_len l.places - l.done
