-- Tokens without marks.
use Rattle.std.specs.Prelude.{List, [], ◌∷◌, ◌++◌, Bool, ◌&&◌, if◌then◌else◌}
use Rattle.tptp_read.specs.Stream.{Tok}
use Rattle.tptp_read.specs.Lexemes.{is_punctuation}
use Rattle.tptp_read.specs.Grammar.{term_fits, is_atom}
use Rattle.tptp_read.specs.Meaning.{Wrote, predicate, equal, tokens_of}

abbrev pub plain : List Tok → List Tok
plain [] = []
plain (t ∷ ts) = if is_punctuation t.kind then plain ts else t ∷ plain ts

-- every token, those of `$true` and `$false` too
abbrev pub all_tokens : Wrote → List Tok
all_tokens (predicate sign t) = tokens_of t
all_tokens (equal sign t u) = tokens_of t ++ tokens_of u

abbrev pub wrote_fits : Wrote → Bool
wrote_fits (predicate sign t) = is_atom t && term_fits t
wrote_fits (equal sign t u) = term_fits t && term_fits u
