-- Texts as pieces.
use Rattle.std.specs.Prelude.{ℕ, List, decimal}
use Rattle.std.specs.List.{flat_map}
use Rattle.outside_io.specs.declared.pieces.Piece.{Piece}
use Rattle.outside_io.specs.declared.pieces.Piece.TheVariants.{Text, Number}

abbrev pub bytes_of : Piece → List ℕ
bytes_of (Text text) = text.now
bytes_of (Number number) = decimal number

-- the bytes of the pieces, one after the other
abbrev pub text_of : List Piece → List ℕ
text_of pieces = flat_map bytes_of pieces
