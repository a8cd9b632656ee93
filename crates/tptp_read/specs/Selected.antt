-- Names of statements that an include selects.
use Rattle.std.specs.Prelude.{ℕ, List, [], ◌∷◌, ◌++◌, map, Bool, false, Option}
use Rattle.std.specs.Option.{option_map}
use Rattle.tptp_read.specs.Stream.{Tok}
use Rattle.tptp_read.specs.Meaning.{name_of}

-- behind these names
abbrev pub in_names : List (List ℕ) → Option (List Tok × List Tok) → Option (List (List ℕ) × List Tok)
in_names front read = option_map (λ z. (front ++ map name_of z.0, z.1)) read

abbrev pub starts : (Tok → Bool) → List Tok → Bool
starts p [] = false
starts p (t ∷ ts) = p t
