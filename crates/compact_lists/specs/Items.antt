-- The items of a short list, in order.
use Rattle.std.specs.Prelude.{List, []}
use Rattle.compact_lists.specs.declared.short.Items.{Items}
use Rattle.compact_lists.specs.declared.short.Items.TheVariants.{Empty, One, Many}

abbrev pub items_of : {T : Type 0} → Items T → List T
items_of Empty = []
items_of (One item) = item
items_of (Many all) = all.value.items
