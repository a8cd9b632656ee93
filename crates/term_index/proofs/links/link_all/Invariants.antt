use Rattle.std.proofs.Common.{◌≡◌, length, take}
use Rattle.term_index.specs.Paths.{AreListed, KeepsPairs}
use Rattle.term_index.specs.Lists.{ListsAll}
use Rattle.term_index.proofs.links.link_all.Given as goal

abbrev pub invariant-loop-span : goal.invariant-loop-span
invariant-loop-span l = record {
  listed : AreListed l.edges.keys l.places l.nodes.items;
  all : ListsAll l.fn.nodes.items (take l.span-index l.added) l.nodes.items;
  len : length l.nodes.items ≡ length l.fn.nodes.items;
  pairs : KeepsPairs l.fn.nodes.items l.nodes.items;
}
