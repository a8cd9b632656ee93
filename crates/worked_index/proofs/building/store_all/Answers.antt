use Rattle.std.proofs.Common.{arith}
use Rattle.worked_index.proofs.Ids.{one_counted, not_yet}
use Rattle.worked_index.proofs.building.store_all.Goals as goal

pub insert-requires-clause-absent : goal.insert-requires-clause-absent
insert-requires-clause-absent g c = not_yet _ _ c.loop-i.i c.loop-i.invariant.counted

pub loop-i-preserved : goal.loop-i-preserved
loop-i-preserved g c = record {
  fits = c.insert.ensures.fits;
  counted = one_counted _ _ _ c.loop-i.i _ (omega arith) c.in_ok-insert.ensures.added c.loop-i.invariant.counted;
}
