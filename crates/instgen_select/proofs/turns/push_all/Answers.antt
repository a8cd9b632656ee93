use Rattle.std.proofs.Common.{subst}
use Rattle.std.specs.BinaryHeap.{heap_items}
use Rattle.instgen_select.specs.Naming.{IsNamed}
use Rattle.instgen_select.proofs.turns.push_all.Goals as goal

pub returns-clause-named : goal.returns-clause-named
returns-clause-named c = (
  subst (IsNamed (heap_items c.push_placed.new.heap)) c.keys_at.ensures c.in_ok-push_placed.ensures.named,
  subst (IsNamed (heap_items c.push_placed-2.new.heap)) c.keys_at-2.ensures c.in_ok-push_placed-2.ensures.named,
  subst (IsNamed (heap_items c.push_placed-3.new.heap)) c.keys_at-3.ensures c.in_ok-push_placed-3.ensures.named,
)
