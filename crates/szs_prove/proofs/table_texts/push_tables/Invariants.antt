use Rattle.std.proofs.Common.{◌≡◌, ◌++◌, take}
use Rattle.std.specs.List.{flat_map}
use Rattle.szs_prove.specs.TableTexts.{table_lines}
use Rattle.szs_prove.proofs.table_texts.push_tables.Given as goal

abbrev pub invariant-loop-table : goal.invariant-loop-table
invariant-loop-table l = l.text.items ≡ l.initial.text.items ++ flat_map (table_lines l.k) (take l.table-index l.list)
