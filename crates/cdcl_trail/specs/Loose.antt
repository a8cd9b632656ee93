-- Clauses that watch nothing.
use Rattle.std.specs.Prelude.{Bool, ◌≡◌, ◌≢◌, ℕ, ◌<◌, ◌≤◌, List, [], ◌∷◌, ◌++◌, length, take, Option, Some, None, All, Contains, slice_set}
use Rattle.inst_logic.specs.declared.signed.Signed.{Signed}
use Rattle.cdcl_trail.specs.Clauses.{clause_number}
use Rattle.cdcl_trail.specs.Propagation.{IsConflict}
use Rattle.cdcl_trail.specs.Watch.{slot_of, list_at, pair_at}
use Rattle.cdcl_trail.specs.Watching.{IsTrueAt}
use Rattle.cdcl_trail.specs.Running.{IsRunning, Runs}
use Rattle.cdcl_trail.specs.Values.{entries_of}
use Rattle.cdcl_trail.specs.declared.values.Values.{Values}
use Rattle.cdcl_trail.specs.declared.entry.Entry.{Entry}
use Rattle.cdcl_trail.specs.declared.loose.Look.{Look}
use Rattle.cdcl_trail.specs.declared.loose.Look.TheVariants.{Passed, Taken, False as FalseClause}
use Rattle.cdcl_trail.specs.declared.watch.WatchedPair.{WatchedPair}
use Rattle.cdcl_trail.specs.declared.watch.Watch.{Watch}

abbrev pub add_to : List (List Watch) → Signed ℕ → Watch → List (List Watch)
add_to lists l w = slice_set lists (slot_of l) (list_at lists (slot_of l) ++ w ∷ [])

-- the lists after a clause began to watch a pair
abbrev pub with_pair : List (List Watch) → ℕ → WatchedPair → Bool → List (List Watch)
with_pair lists n p b = add_to (add_to lists p.first (record { number = n; blocker = p.second; binary = b })) p.second (record { number = n; blocker = p.first; binary = b })

-- what a look at clause n says
abbrev pub IsLookedAt : List (Option (List (Signed ℕ))) → ℕ → List Entry → List (Option WatchedPair) → Look → Type 0
IsLookedAt clauses n entries pairs Passed = IsTrueAt clauses entries n
IsLookedAt clauses n entries pairs Taken = (c : List (Signed ℕ)) → clause_number clauses n ≡ Some c → pair_at pairs n ≢ None
IsLookedAt clauses n entries pairs (FalseClause m) = IsConflict clauses entries m

-- each clause that watches nothing is among the loose ones, of which the first have a true literal
pub record AreLoose (clauses : List (Option (List (Signed ℕ)))) (entries : List Entry) (pairs : List (Option WatchedPair)) (loose : List ℕ) (passed : ℕ) : Type 0 where
  pub room : (n : ℕ) (c : List (Signed ℕ)) → clause_number clauses n ≡ Some c → n < length pairs
  pub all : (n : ℕ) (c : List (Signed ℕ)) → clause_number clauses n ≡ Some c → pair_at pairs n ≡ None → Contains loose n
  pub there : (n : ℕ) → Contains loose n → clause_number clauses n ≢ None
  pub seen : All (IsTrueAt clauses entries) (take passed loose)
  pub low : passed ≤ length loose

-- the loose clauses before `passed` have a true literal, and the first of them stayed
pub record IsLooseRun (clauses : List (Option (List (Signed ℕ)))) (level : ℕ) (v : Values) (pairs : List (Option WatchedPair)) (loose : List ℕ) (passed : ℕ) (v' : Values) (lists' : List (List Watch)) (pairs' : List (Option WatchedPair)) (loose' : List ℕ) (passed' : ℕ) : Type 0 where
  pub running : IsRunning clauses level v' lists' pairs'
  pub runs : Runs clauses level v pairs v' pairs'
  pub are_loose : AreLoose clauses (entries_of v') pairs' loose' passed'
  pub front : take passed loose' ≡ take passed loose
  pub on : passed ≤ passed'
  pub short : length loose' ≤ length loose
