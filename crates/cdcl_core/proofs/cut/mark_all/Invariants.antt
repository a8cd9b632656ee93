use Rattle.std.proofs.Common.{ℕ, ◌≤◌, take}
use Rattle.std.specs.Prelude.{All}
use Rattle.cdcl_core.specs.Cut.{CitesOnly, IsMarked}
use Rattle.cdcl_core.proofs.cut.mark_all.Given as goal

abbrev pub invariant-loop-hint : goal.invariant-loop-hint
invariant-loop-hint l = record {
  cited : All (CitesOnly (IsMarked l.needed) l.limit) (take l.hint-index l.hints);
  kept : (k : ℕ) → IsMarked l.initial.needed k → IsMarked l.needed k;
  above : (k : ℕ) → l.limit ≤ k → IsMarked l.needed k → IsMarked l.initial.needed k;
}
