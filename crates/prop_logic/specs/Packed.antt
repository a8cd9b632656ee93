-- Values that are packed into words of 64 bits.
use Rattle.std.specs.Prelude.{ℕ, ◌/◌, ◌%◌, ◌==◌, List, Bool, true, false, map}
use Rattle.std.specs.List.{slice_index_or, range_with_len}
use Rattle.std.specs.Int.{bit_at}

-- bit k of the words, counted through all of them
abbrev pub bit_of : List ℕ → ℕ → ℕ
bit_of words k = bit_at (slice_index_or words (k / 64) 0) (k % 64)

abbrev pub is_set : List ℕ → ℕ → Bool
is_set words k = bit_of words k == 1

-- the first values
abbrev pub values_of : List ℕ → ℕ → List Bool
values_of words len = map (is_set words) (range_with_len 0 len)

abbrev pub digit_of : Bool → ℕ
digit_of true = 1
digit_of false = 0
