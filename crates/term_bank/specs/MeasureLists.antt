-- The table that a packed list of measures stands for.
use Rattle.std.specs.Prelude.{◌-◌, ◌^◌, min, length, map, vec_len, vec_capacity}
use Rattle.std.specs.List.{All}
use Rattle.term_bank.specs.declared.measure_list.MeasureList.TheInside.{Inside}
use Rattle.term_bank.specs.MeasureTables.{MeasureTable}
use Rattle.term_bank.specs.ShortMeasures.{measures_of, IsWithin}

abbrev pub table_of : Inside → MeasureTable
table_of a = record {
  items = map (measures_of a.long.items) a.short.items;
  room = min (vec_capacity a.short - vec_len a.short) (min (vec_capacity a.long - vec_len a.long) (2 ^ 32 - vec_len a.long));
}

abbrev pub IsTable : Inside → Type 0
IsTable a = All (IsWithin (length a.long.items)) a.short.items
