-- Trails that watch clauses.
use Rattle.std.specs.Prelude.{◌≡◌, ◌≢◌, ℕ, ◌<◌, ◌≤◌, List, length, take, Option, Some, None, All, Contains}
use Rattle.std.specs.List.{slice_index_or}
use Rattle.inst_logic.specs.declared.signed.Signed.{Signed}
use Rattle.cdcl_trail.specs.Arena.{AreCopies}
use Rattle.cdcl_trail.specs.Clauses.{clause_number}
use Rattle.cdcl_trail.specs.Trail.{Trail, entries_up_to}
use Rattle.cdcl_trail.specs.Watch.{pair_at, AreWatched}
use Rattle.cdcl_trail.specs.Watching.{IsTrueAt, IsSettled}
use Rattle.cdcl_trail.specs.declared.entry.Entry.{Entry}
use Rattle.cdcl_trail.specs.declared.watch.Head.{Head}
use Rattle.cdcl_trail.specs.declared.watch.WatchedPair.{WatchedPair}
use Rattle.cdcl_trail.specs.declared.watch.Watch.{Watch}

-- how clauses are watched: the lists of the literals, the pairs of the clauses, copies of those that watch, the clauses that
-- watch nothing, and how far propagation came at the present level and, before each level was opened, at the one below
pub record Watching : Type 0 where
  pub lists : List (List Watch)
  pub pairs : List (Option WatchedPair)
  pub copies : List (Option (List (Signed ℕ)))
  pub loose : List ℕ
  pub head : Head
  pub heads : List Head

-- the assignment, and how clauses are watched
pub record WatchedTrail : Type 0 where
  pub trail : Trail
  pub watching : Watching

-- how far propagation came at a level
abbrev pub head_at : Watching → ℕ → Head
head_at w k = slice_index_or w.heads k w.head

-- up to this head all clauses are settled by these entries
pub record IsSettledTo (clauses : List (Option (List (Signed ℕ)))) (w : Watching) (entries : List Entry) (h : Head) : Type 0 where
  pub settled : IsSettled clauses w.pairs entries h.place
  pub seen : All (IsTrueAt clauses entries) (take h.passed w.loose)
  pub place : h.place ≤ length entries
  pub passed : h.passed ≤ length w.loose

-- The attached clauses are exactly these.
pub record AreAttached (t : WatchedTrail) (clauses : List (Option (List (Signed ℕ)))) : Type 0 where
  pub watched : AreWatched clauses t.watching.lists t.watching.pairs
  pub copies : AreCopies clauses t.watching.copies t.watching.pairs
  pub room : (n : ℕ) (c : List (Signed ℕ)) → clause_number clauses n ≡ Some c → n < length t.watching.pairs
  pub loose : (n : ℕ) (c : List (Signed ℕ)) → clause_number clauses n ≡ Some c → pair_at t.watching.pairs n ≡ None → Contains t.watching.loose n
  pub there : (n : ℕ) → Contains t.watching.loose n → clause_number clauses n ≢ None
  pub levels : (k : ℕ) → k ≤ t.trail.level → IsSettledTo clauses t.watching (entries_up_to t.trail.entries k) (head_at t.watching k)
  pub rising : (j k : ℕ) → j ≤ k → k ≤ t.trail.level → (head_at t.watching j).passed ≤ (head_at t.watching k).passed
