-- One step of propagation over watched literals.
use Rattle.std.specs.Prelude.{◌≡◌, ℕ, ◌+◌, ◌<◌, ◌≤◌, List, length, map, take, Option, Some, None, All, Contains, false, slice_get}
use Rattle.inst_logic.specs.declared.signed.Signed.{Signed}
use Rattle.cdcl_trail.specs.Clauses.{ClausesBelow}
use Rattle.cdcl_trail.specs.Propagation.{Propagates, IsConflict, IsFalseIn}
use Rattle.cdcl_trail.specs.Trail.{Trail, IsTrail, literals_of}
use Rattle.cdcl_trail.specs.Values.{AreValues, entries_of}
use Rattle.cdcl_trail.specs.Watch.{slot_of, list_at, pair_at, AreWatched}
use Rattle.cdcl_trail.specs.Watching.{IsTrueAt, IsSettled}
use Rattle.cdcl_trail.specs.declared.entry.Entry.{Entry}
use Rattle.cdcl_trail.specs.declared.values.Values.{Values}
use Rattle.cdcl_trail.specs.declared.visit.Visit.{Visit}
use Rattle.cdcl_trail.specs.declared.visit.Visit.TheVariants.{Kept, Moved, False as FalseClause}
use Rattle.cdcl_trail.specs.declared.watch.WatchedPair.{WatchedPair}
use Rattle.cdcl_trail.specs.declared.watch.Spot.{Spot}
use Rattle.cdcl_trail.specs.declared.watch.Watch.{Watch}
use Rattle.cdcl_trail.specs.declared.watched_values.WatchedValues.{WatchedValues}

-- the trail of these values at a level
abbrev pub at_level : ℕ → Values → Trail
at_level level v = record { atoms = length v.entries.items; level = level; entries = entries_of v; spent = false }

abbrev pub numbers_at : List (List Watch) → ℕ → List ℕ
numbers_at lists k = map (λ w. w.number) (list_at lists k)

-- what holds before and after each step
pub record IsRunning (clauses : List (Option (List (Signed ℕ)))) (level : ℕ) (v : Values) (lists : List (List Watch)) (pairs : List (Option WatchedPair)) : Type 0 where
  pub values : AreValues v
  pub trail : IsTrail (at_level level v)
  pub watched : AreWatched clauses lists pairs
  pub slots : length lists ≡ length v.entries.items + length v.entries.items
  pub below : ClausesBelow (length v.entries.items) clauses

abbrev pub IsRunningOn : List (Option (List (Signed ℕ))) → ℕ → WatchedValues → Type 0
IsRunningOn clauses level w = IsRunning clauses level w.values w.lists.items w.pairs.items

-- what is settled on a part of these entries stays so
abbrev pub KeepsSettled : List (Option (List (Signed ℕ))) → List Entry → List (Option WatchedPair) → List (Option WatchedPair) → Type 0
KeepsSettled clauses entries old new = (part : List Entry) (h : ℕ) → ((l : Signed ℕ) → Contains (literals_of part) l → Contains (literals_of entries) l) → IsSettled clauses old part h → IsSettled clauses new part h

-- what a step does to values and pairs
pub record Runs (clauses : List (Option (List (Signed ℕ)))) (level : ℕ) (v : Values) (pairs : List (Option WatchedPair)) (v' : Values) (pairs' : List (Option WatchedPair)) : Type 0 where
  pub added : Propagates clauses (at_level level v) (at_level level v')
  pub kept : KeepsSettled clauses (entries_of v) pairs pairs'
  pub loose : (n : ℕ) → pair_at pairs' n ≡ None → pair_at pairs n ≡ None
  pub room : length pairs' ≡ length pairs

abbrev pub RunsOn : List (Option (List (Signed ℕ))) → ℕ → WatchedValues → WatchedValues → Type 0
RunsOn clauses level old new = Runs clauses level old.values old.pairs.items new.values new.pairs.items

-- what a visit says of the clause at a place of the list
abbrev pub IsVisited : List (Option (List (Signed ℕ))) → ℕ → List ℕ → List ℕ → List Entry → Visit → Type 0
IsVisited clauses place before after entries Kept = (after ≡ before) × ((n : ℕ) → slice_get before place ≡ Some n → IsTrueAt clauses entries n)
IsVisited clauses place before after entries Moved = (take place after ≡ take place before) × (length after + 1 ≡ length before)
IsVisited clauses place before after entries (FalseClause n) = IsConflict clauses entries n

-- a visit of the clause at a place of the literal's list
pub record Visits (clauses : List (Option (List (Signed ℕ)))) (level : ℕ) (l : Signed ℕ) (place : ℕ) (v : Values) (lists : List (List Watch)) (pairs : List (Option WatchedPair)) (v' : Values) (lists' : List (List Watch)) (pairs' : List (Option WatchedPair)) (visit : Visit) : Type 0 where
  pub running : IsRunning clauses level v' lists' pairs'
  pub runs : Runs clauses level v pairs v' pairs'
  pub visited : IsVisited clauses place (numbers_at lists (slot_of l)) (numbers_at lists' (slot_of l)) (entries_of v') visit

abbrev pub VisitsOn : List (Option (List (Signed ℕ))) → ℕ → Spot → WatchedValues → WatchedValues → Visit → Type 0
VisitsOn clauses level spot old new visit = Visits clauses level spot.l spot.place old.values old.lists.items old.pairs.items new.values new.lists.items new.pairs.items visit

-- the clauses before a place of the literal's list have a true literal
pub record IsListRun (clauses : List (Option (List (Signed ℕ)))) (level : ℕ) (l : Signed ℕ) (place : ℕ) (v : Values) (pairs : List (Option WatchedPair)) (v' : Values) (lists' : List (List Watch)) (pairs' : List (Option WatchedPair)) : Type 0 where
  pub running : IsRunning clauses level v' lists' pairs'
  pub runs : Runs clauses level v pairs v' pairs'
  pub is_false : IsFalseIn (entries_of v') l
  pub slot : slot_of l < length lists'
  pub seen : All (IsTrueAt clauses (entries_of v')) (take place (numbers_at lists' (slot_of l)))

-- the literals before the head are settled
pub record IsTrailRun (clauses : List (Option (List (Signed ℕ)))) (level : ℕ) (head : ℕ) (v : Values) (pairs : List (Option WatchedPair)) (v' : Values) (lists' : List (List Watch)) (pairs' : List (Option WatchedPair)) : Type 0 where
  pub running : IsRunning clauses level v' lists' pairs'
  pub runs : Runs clauses level v pairs v' pairs'
  pub low : head ≤ length (entries_of v')
  pub settled : IsSettled clauses pairs' (entries_of v') head
