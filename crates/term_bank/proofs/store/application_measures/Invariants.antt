use Rattle.std.proofs.Common.{◌≡◌, ◌-◌, ◌^◌, ◌+◌, min, take, fold, None}
use Rattle.std.specs.Prelude.{sum_by}
use Rattle.inst_logic.specs.Measure.{function_count}
use Rattle.term_bank.specs.Greatest.{greater}
use Rattle.term_bank.specs.Nodes.{measures_in}
use Rattle.term_bank.proofs.store.application_measures.Given as goal

abbrev pub invariant-loop-a : goal.invariant-loop-a
invariant-loop-a l = record {
  size : l.size ≡ min (sum_by (λ i. (measures_in l.all.items i).size) (take l.a-index l.args) + 1) (2 ^ 64 - 1);
  weight : l.weight ≡ min (sum_by (λ i. (measures_in l.all.items i).weight) (take l.a-index l.args) + function_count l.fn.kind) (2 ^ 64 - 1);
  greatest : l.greatest ≡ fold (λ g i. greater g (measures_in l.all.items i).greatest) None (take l.a-index l.args);
}
