-- Watch lists by the slots of their literals, and the pairs that clauses watch.
use Rattle.std.specs.Prelude.{◌≡◌, ◌≢◌, ℕ, ◌+◌, ◌==◌, Bool, true, ◌||◌, ◌⊎◌, ◌<◌, length, List, [], cond, Option, Some, None, All, Contains, slice_get}
use Rattle.std.specs.List.{slice_index_or, count_by}
use Rattle.inst_logic.specs.declared.signed.Signed.{Signed}
use Rattle.cdcl_trail.specs.Clauses.{clause_number}
use Rattle.cdcl_trail.specs.declared.watch.Watch.{Watch}
use Rattle.cdcl_trail.specs.declared.watch.WatchedPair.{WatchedPair}

-- the place of a literal's list
abbrev pub slot_of : Signed ℕ → ℕ
slot_of l = l.atom + l.atom + cond l.positive 1 0

abbrev pub list_at : List (List Watch) → ℕ → List Watch
list_at lists k = slice_index_or lists k []

-- how often clause n stands in a list
abbrev pub times : ℕ → List Watch → ℕ
times n watches = count_by (λ w. w.number == n) watches

abbrev pub pair_in : Option (Option WatchedPair) → Option WatchedPair
pair_in None = None
pair_in (Some found) = found

-- what clause n watches, if it watches
abbrev pub pair_at : List (Option WatchedPair) → ℕ → Option WatchedPair
pair_at pairs n = pair_in (slice_get pairs n)

abbrev pub is_slot : WatchedPair → ℕ → Bool
is_slot p k = slot_of p.first == k || slot_of p.second == k

-- how often a clause that watches this stands in the list of a slot
abbrev pub due : Option WatchedPair → ℕ → ℕ
due None k = 0
due (Some p) k = cond (is_slot p k) 1 0

-- the clause has both literals, and they are two
pub record IsPairOf (clauses : List (Option (List (Signed ℕ)))) (n : ℕ) (p : WatchedPair) : Type 0 where
  pub clause : List (Signed ℕ)
  pub here : clause_number clauses n ≡ Some clause
  pub first : Contains clause p.first
  pub second : Contains clause p.second
  pub apart : slot_of p.first ≢ slot_of p.second

-- the blocker is a literal of the clause; one that is said to be binary has no others but it and the literal of the list
pub record IsBlocker (c : List (Signed ℕ)) (k : ℕ) (w : Watch) : Type 0 where
  pub here : Contains c w.blocker
  pub only : w.binary ≡ true → All (λ m. (slot_of m ≡ k) ⊎ (m ≡ w.blocker)) c

-- each clause that watches stands once in the lists of its two literals and in no other, with blockers that are literals of it
pub record AreWatched (clauses : List (Option (List (Signed ℕ)))) (lists : List (List Watch)) (pairs : List (Option WatchedPair)) : Type 0 where
  pub blockers : (k : ℕ) (w : Watch) (c : List (Signed ℕ)) → Contains (list_at lists k) w → clause_number clauses w.number ≡ Some c → IsBlocker c k w
  pub counted : (k n : ℕ) → times n (list_at lists k) ≡ due (pair_at pairs n) k
  pub of_clauses : (n : ℕ) (p : WatchedPair) → pair_at pairs n ≡ Some p → IsPairOf clauses n p

abbrev pub pair_of : Signed ℕ → Signed ℕ → WatchedPair
pair_of a b = record { first = a; second = b }

-- the pair has these two literals
abbrev pub HasBoth : WatchedPair → Signed ℕ → Signed ℕ → Type 0
HasBoth p f o = ((p.first ≡ f) × (p.second ≡ o)) ⊎ ((p.second ≡ f) × (p.first ≡ o))

-- a watch of clause c, at a place of the list of f, may go to the list of the next literal
pub record IsMove (clauses : List (Option (List (Signed ℕ)))) (lists : List (List Watch)) (pairs : List (Option WatchedPair)) (f o next : Signed ℕ) (place : ℕ) (w : Watch) (p : WatchedPair) (c : List (Signed ℕ)) : Type 0 where
  pub watched : AreWatched clauses lists pairs
  pub in_f : slot_of f < length lists
  pub in_next : slot_of next < length lists
  pub at : slice_get (list_at lists (slot_of f)) place ≡ Some w
  pub pair : pair_at pairs w.number ≡ Some p
  pub both : HasBoth p f o
  pub here : clause_number clauses w.number ≡ Some c
  pub has_o : Contains c o
  pub has_next : Contains c next
  pub not_f : slot_of next ≢ slot_of f
  pub not_o : slot_of next ≢ slot_of o
  pub apart : slot_of f ≢ slot_of o
