-- Each entry waits or is indexed, and those that are indexed are worked.
use Rattle.std.specs.Prelude.{◌<◌, ℕ, List, [], ◌∷◌, ◌++◌, map, length, All, Contains}
use Rattle.engine_laws.specs.Pairs.{AreWorked, AreQueuedOrIndexed}
use Rattle.term_index.specs.Pairs.{Posting}
use Rattle.instgen_select.specs.Queues.{numbers}
use Rattle.instgen_run.specs.declared.state.Run.{Run}
use Rattle.instgen_run.specs.declared.queue.Partners.{Partners}
use Rattle.instgen_run.specs.Loops.{items, held_of}
use Rattle.instgen_run.specs.Running.{entries_of}

-- the entries that an index has
abbrev pub indexed_of : {I C : Type 0} → (I → List Posting) → Partners I C → List ℕ
indexed_of pairs p = map (λ (q : Posting). q.1) (pairs p.positive ++ pairs p.negative)

-- no number stands twice
abbrev pub AreOnce : List ℕ → Type 0
AreOnce [] = Unit {0}
AreOnce (n ∷ ns) = (¬ Contains ns n) × AreOnce ns

pub record AreTended {S I C : Type 0} (pairs : I → List Posting) (r : Run S I C) (p : Partners I C) : Type 0 where
  pub once : AreOnce (numbers r.queue.items)
  pub positive : All (λ n. 0 < n) (numbers r.queue.items)
  pub apart : (n : ℕ) → Contains (numbers r.queue.items) n → ¬ Contains (indexed_of pairs p) n
  pub queued : AreQueuedOrIndexed (numbers r.queue.items) (indexed_of pairs p) (length (items r))
  pub worked : AreWorked (entries_of r) r.selection.places (held_of r) (indexed_of pairs p)
