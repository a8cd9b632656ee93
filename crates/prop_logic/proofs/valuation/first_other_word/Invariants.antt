use Rattle.std.proofs.Common.{◌≡◌, ℕ, ◌-◌, ◌<◌, ◌≤◌}
use Rattle.std.specs.List.{slice_index_or}
use Rattle.prop_logic.proofs.valuation.first_other_word.Given as goal

abbrev pub invariant-loop-place : goal.invariant-loop-place
invariant-loop-place l = record { after : l.from ≤ l.place; within : l.place ≤ l.end; same : (p : ℕ) → l.from ≤ p → p < l.place → slice_index_or l.old p 0 ≡ slice_index_or l.new p 0 }

abbrev pub decreases-loop-place : goal.decreases-loop-place
decreases-loop-place l = l.end - l.place
