-- What waits, and what of it may be picked.
use Rattle.std.specs.Prelude.{◌≡◌, ℕ, List, ◌++◌, map}
use Rattle.instgen_select.specs.declared.passive.Ready.{Ready}
use Rattle.instgen_select.specs.declared.passive.Ready.TheVariants.{ByAge, ByTurns}
use Rattle.instgen_select.specs.declared.turns.Arrival.{Arrival}
use Rattle.instgen_select.specs.Queues.{Waiting, IsTakenOut}

-- all that waits, in the order in which it was put, and what of it may be picked
pub record Passive_list : Type 0 where
  pub items : List Waiting
  pub ready : List Waiting

abbrev pub ready_of : Ready → List Waiting
ready_of (ByAge queue) = queue.items
ready_of (ByTurns turns) = turns.items

abbrev pub fresh_of : List Arrival → List Waiting
fresh_of arrivals = map (λ (a : Arrival). (a.number, a.size)) arrivals

-- The number is taken out of what may be picked. What waits apart stays.
pub record IsLetGo (old new : Passive_list) (number : ℕ) : Type 0 where
  pub ready : IsTakenOut old.ready new.ready number
  pub apart : List Waiting
  pub before : old.items ≡ old.ready ++ apart
  pub after : new.items ≡ new.ready ++ apart
