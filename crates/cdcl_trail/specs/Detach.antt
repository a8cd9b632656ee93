-- A clause is taken out of a list.
use Rattle.std.specs.Prelude.{◌≡◌, ◌≢◌, ℕ, List, Contains, length, take}
use Rattle.cdcl_trail.specs.Watch.{slot_of, list_at, times}
use Rattle.cdcl_trail.specs.declared.watch.Head.{Head}
use Rattle.cdcl_trail.specs.declared.watch.WatchedPair.{WatchedPair}
use Rattle.cdcl_trail.specs.declared.watch.Watch.{Watch}

-- clause n stands in the list of this slot no more; all else is as it was
pub record IsUnwatched (n j : ℕ) (old new : List (List Watch)) : Type 0 where
  pub gone : times n (list_at new j) ≡ 0
  pub others : (m : ℕ) → m ≢ n → times m (list_at new j) ≡ times m (list_at old j)
  pub old_ones : (x : Watch) → Contains (list_at new j) x → Contains (list_at old j) x
  pub apart : (k : ℕ) → k ≢ j → list_at new k ≡ list_at old k
  pub size : length new ≡ length old

-- while the list is walked: the clause is in none of its places before this one, and all else is as it was
pub record IsUnwatchedTo (n j place : ℕ) (old new : List (List Watch)) : Type 0 where
  pub gone : times n (take place (list_at new j)) ≡ 0
  pub others : (m : ℕ) → m ≢ n → times m (list_at new j) ≡ times m (list_at old j)
  pub old_ones : (x : Watch) → Contains (list_at new j) x → Contains (list_at old j) x
  pub apart : (k : ℕ) → k ≢ j → list_at new k ≡ list_at old k
  pub size : length new ≡ length old

-- clause n stands in the lists of the pair no more; all else is as it was
pub record IsUnwatchedBoth (n : ℕ) (p : WatchedPair) (old new : List (List Watch)) : Type 0 where
  pub first : times n (list_at new (slot_of p.first)) ≡ 0
  pub second : times n (list_at new (slot_of p.second)) ≡ 0
  pub others : (k m : ℕ) → m ≢ n → times m (list_at new k) ≡ times m (list_at old k)
  pub old_ones : (k : ℕ) (x : Watch) → Contains (list_at new k) x → Contains (list_at old k) x
  pub apart : (k : ℕ) → k ≢ slot_of p.first → k ≢ slot_of p.second → list_at new k ≡ list_at old k

-- clause n stands in no list; all else is as it was
pub record IsUnwatchedAll (n : ℕ) (old new : List (List Watch)) : Type 0 where
  pub gone : (k : ℕ) → times n (list_at new k) ≡ 0
  pub others : (k m : ℕ) → m ≢ n → times m (list_at new k) ≡ times m (list_at old k)
  pub old_ones : (k : ℕ) (x : Watch) → Contains (list_at new k) x → Contains (list_at old k) x

-- no loose clause was passed
abbrev pub unpassed : Head → Head
unpassed h = record { place = h.place; passed = 0 }
