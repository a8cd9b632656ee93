use Rattle.std.specs.BinaryHeap.{heap_items}
use Rattle.instgen_select.proofs.NamingLaws.{named_more, named_now}
use Rattle.instgen_select.proofs.turns.push_placed.Goals as goal

pub returns-clause-kept : goal.returns-clause-kept
returns-clause-kept c = named_more c.args.x (heap_items c.args.heap.now) (heap_items c.push.new.self) c.in_ok-push.ensures.permutation

pub returns-clause-named : goal.returns-clause-named
returns-clause-named c = named_now c.args.x (heap_items c.args.heap.now) (heap_items c.push.new.self) c.in_ok-push.ensures.permutation
