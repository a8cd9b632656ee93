-- The measures that a packed entry stands for.
use Rattle.std.specs.Prelude.{◌≡◌, ℕ, zero, suc, ◌<◌, ◌==◌, List, Option, Some, None, slice_index_or, if◌then◌else◌}
use Rattle.term_bank.specs.declared.node.Measures.{Measures}
use Rattle.term_bank.specs.declared.measure_list.ShortMeasures.{ShortMeasures}
use Rattle.term_bank.specs.Nodes.{no_measures}

-- the size of an entry without measures of its own
abbrev pub long_size : ℕ
long_size = 4294967295

-- one less than the number, and none for 0
abbrev pub greatest_in : ℕ → Option ℕ
greatest_in zero = None
greatest_in (suc v) = Some v

-- the entry's own measures, or those at its place in the list
abbrev pub measures_of : List Measures → ShortMeasures → Measures
measures_of long s = if s.size == long_size then slice_index_or long s.weight no_measures else record { size = s.size; weight = s.weight; greatest = greatest_in s.greatest }

-- an entry without measures of its own has a place among the first so many
abbrev pub IsWithin : ℕ → ShortMeasures → Type 0
IsWithin count s = s.size ≡ long_size → s.weight < count
