-- Files that were found.
use Rattle.std.specs.Prelude.{ℕ, List}
use Rattle.std.specs.String.{string_bytes}
use Rattle.tptp_load.specs.declared.paths.IncludedFile.{IncludedFile}

abbrev pub pair_of : IncludedFile → List ℕ × List ℕ
pair_of found = (string_bytes found.name, found.bytes)
