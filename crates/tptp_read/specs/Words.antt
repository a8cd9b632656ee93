-- Words that begin a statement.
use Rattle.std.specs.Prelude.{ℕ, List, Bool, ◌&&◌}
use Rattle.std.specs.Str.{bytes_eq}
use Rattle.tptp_read.specs.Stream.{Tok}
use Rattle.tptp_read.specs.Lexemes.{is_lower_kind}

abbrev pub is_word : List ℕ → Tok → Bool
is_word w t = is_lower_kind t.kind && bytes_eq t.text w
