-- The entries that the fields hold.
use Rattle.std.specs.Prelude.{◌≡◌, ◌≢◌, ℕ, ◌+◌, ◌≤◌, ◌<◌, ◌^◌, ◌==◌, not, List, [], ◌∷◌, length, map, Option, Some, None, All, AllPairs, Contains, slice_get, count_by, is_some, vec_capacity, if◌then◌else◌}
use Rattle.std.specs.List.{slice_index_or}
use Rattle.inst_logic.specs.declared.signed.Signed.{Signed}
use Rattle.cdcl_trail.specs.declared.entry.Entry.{Entry}
use Rattle.cdcl_trail.specs.declared.values.Values.{Values}
use Rattle.cdcl_trail.specs.Trail.{literals_of}

-- the entry, where there is one
abbrev pub entry_or : Option (Option Entry) → Signed ℕ → Entry
entry_or (Some (Some e)) l = e
entry_or (Some None) l = record { lit = l; level = 0; reason = None }
entry_or None l = record { lit = l; level = 0; reason = None }

-- the entry of the literal's atom
abbrev pub entry_at : List (Option Entry) → Signed ℕ → Entry
entry_at entries l = entry_or (slice_get entries l.atom) l

-- the entries in the order of their literals
abbrev pub entries_of : Values → List Entry
entries_of v = map (entry_at v.entries.items) v.literals.items

-- the first entry of the atom
abbrev pub found : List Entry → ℕ → Option Entry
found [] atom = None
found (e ∷ es) atom = if e.lit.atom == atom then Some e else found es atom

-- each atom has its entry and no other
pub record AreByAtom (entries : List Entry) (by_atom : List (Option Entry)) : Type 0 where
  pub at_atom : All (λ e. slice_get by_atom e.lit.atom ≡ Some (Some e)) entries
  pub by_entry : (a : ℕ) (e : Entry) → slice_get by_atom a ≡ Some (Some e) → Contains entries e × (e.lit.atom ≡ a)
  pub once : AllPairs (λ a b. a.lit.atom ≢ b.lit.atom) entries
  pub counted : length entries + count_by (λ o. not (is_some o)) by_atom ≡ length by_atom

-- the entry of each atom that has one is at the atom's place
pub record ArePlaces (entries : List Entry) (by_atom : List (Option Entry)) (places : List ℕ) : Type 0 where
  pub held : (a : ℕ) (e : Entry) → slice_get by_atom a ≡ Some (Some e) → slice_get entries (slice_index_or places a 0) ≡ Some e
  pub size : length by_atom ≤ length places

pub record AreValues (v : Values) : Type 0 where
  pub by_atom : AreByAtom (entries_of v) v.entries.items
  pub places : ArePlaces (entries_of v) v.entries.items v.entries.places
  pub literals : literals_of (entries_of v) ≡ v.literals.items
  pub room : length v.entries.items ≤ vec_capacity v.literals
  pub small : length v.entries.items < 2 ^ 31
