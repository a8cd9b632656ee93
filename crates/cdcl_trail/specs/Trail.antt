-- Trails: the true literals in the order in which they became so, each with its level and its reason.
use Rattle.std.specs.Prelude.{◌≡◌, ◌≢◌, ℕ, ◌+◌, ◌<◌, ◌≤◌, ◌==◌, nat_le, Bool, not, List, [], ◌∷◌, ◌++◌, map, filter, Option, Some, None, All, AllPairs, Contains, slice_get, if◌then◌else◌}
use Rattle.inst_logic.specs.declared.signed.Signed.{Signed}
use Rattle.cdcl_trail.specs.declared.entry.Entry.{Entry}

-- the number of atoms, the present level, the entries, and whether a call has answered Memory
pub record Trail : Type 0 where
  pub atoms : ℕ
  pub level : ℕ
  pub entries : List Entry
  pub spent : Bool

-- no entry is for the atom: it has no value
abbrev pub IsUnset : List Entry → ℕ → Type 0
IsUnset entries atom = All (λ e. e.lit.atom ≢ atom) entries

-- the entry at this place is the atom's
abbrev pub IsPlaceOf : List Entry → ℕ → ℕ → Type 0
IsPlaceOf entries atom place = (e : Entry) × (slice_get entries place ≡ Some e) × (e.lit.atom ≡ atom)

-- an entry that opens its level
abbrev pub IsDecision : Entry → Type 0
IsDecision e = e.reason ≡ None

-- each atom has one value at most, the levels rise along the trail up to the present one, and each level from 1 on
-- begins with its one decision
pub record IsTrail (t : Trail) : Type 0 where
  pub atoms_below : All (λ e. e.lit.atom < t.atoms) t.entries
  pub once : AllPairs (λ a b. a.lit.atom ≢ b.lit.atom) t.entries
  pub rising : AllPairs (λ a b. a.level ≤ b.level) t.entries
  pub levels : All (λ e. e.level ≤ t.level) t.entries
  pub decided : (k : ℕ) → 0 < k → k ≤ t.level → (e : Entry) × Contains t.entries e × (e.level ≡ k) × IsDecision e
  pub first : AllPairs (λ a b. IsDecision b → a.level < b.level) t.entries
  pub above : All (λ e. IsDecision e → 0 < e.level) t.entries

-- the value of the literal, where its atom has one
abbrev pub value_of : List Entry → Signed ℕ → Option Bool
value_of [] l = None
value_of (e ∷ es) l = if e.lit.atom == l.atom then Some (if e.lit.positive then l.positive else not l.positive) else value_of es l

abbrev pub level_of : List Entry → ℕ → Option ℕ
level_of [] atom = None
level_of (e ∷ es) atom = if e.lit.atom == atom then Some e.level else level_of es atom

abbrev pub reason_of : List Entry → ℕ → Option ℕ
reason_of [] atom = None
reason_of (e ∷ es) atom = if e.lit.atom == atom then e.reason else reason_of es atom

abbrev pub literals_of : List Entry → List (Signed ℕ)
literals_of entries = map (λ e. e.lit) entries

abbrev pub entries_up_to : List Entry → ℕ → List Entry
entries_up_to entries level = filter (λ e. nat_le e.level level) entries

abbrev pub with_atom : Trail → Trail
with_atom t = record t { atoms = t.atoms + 1 }

-- a new level that begins with the literal
abbrev pub with_decision : Trail → Signed ℕ → Trail
with_decision t l = record t { level = t.level + 1; entries = t.entries ++ (record { lit = l; level = t.level + 1; reason = None }) ∷ [] }

-- the literal at the present level, with the number of the clause that gives it
abbrev pub with_implied : Trail → Signed ℕ → ℕ → Trail
with_implied t l reason = record t { entries = t.entries ++ (record { lit = l; level = t.level; reason = Some reason }) ∷ [] }

-- the entries of the levels up to this one
abbrev pub back_at : Trail → ℕ → Trail
back_at t level = record t { level = level; entries = entries_up_to t.entries level }
