use Rattle.std.proofs.Common.{◌≡◌, ◌++◌, take}
use Rattle.std.specs.List.{flat_map}
use Rattle.finite_model.specs.Filled.{all_arguments}
use Rattle.szs_prove.specs.TableTexts.{line_at}
use Rattle.szs_prove.proofs.table_texts.push_table.Given as goal

abbrev pub invariant-loop-row : goal.invariant-loop-row
invariant-loop-row l = l.text.items ≡ l.initial.text.items ++ flat_map (line_at l.k l.table) (take l.row (all_arguments l.k l.table.sym.arity))
