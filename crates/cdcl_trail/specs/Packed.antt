-- What packed literals and pairs say.
use Rattle.std.specs.Prelude.{ℕ, ◌/◌, ◌%◌, ◌==◌, Option, Some, None, if◌then◌else◌}
use Rattle.inst_logic.specs.declared.signed.Signed.{Signed}
use Rattle.cdcl_trail.specs.declared.watch.WatchedPair.{WatchedPair}

-- the literal whose list is at this place
abbrev pub literal_of : ℕ → Signed ℕ
literal_of place = record { positive = place % 2 == 1; atom = place / 2 }

-- the literals whose lists are at these places, or no pair
abbrev pub pair_at_slots : ℕ → ℕ → Option WatchedPair
pair_at_slots first second = if first == 4294967295 then None else Some (record { first = literal_of first; second = literal_of second })
