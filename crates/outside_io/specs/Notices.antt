-- Answers without a result, as two lines.
use Rattle.std.specs.Prelude.{ℕ, List, [], ◌∷◌, ◌++◌, codes}
use Rattle.std.specs.List.{concat}
use Rattle.outside_io.specs.declared.notices.Status.{Status}
use Rattle.outside_io.specs.declared.notices.Status.TheVariants.{SyntaxError, Inappropriate, InputError, OsError, UsageError, ResourceOut, MemoryOut}

-- the words of the SZS ontology
abbrev pub word_of : Status → List ℕ
word_of SyntaxError = codes "SyntaxError"
word_of Inappropriate = codes "Inappropriate"
word_of InputError = codes "InputError"
word_of OsError = codes "OSError"
word_of UsageError = codes "UsageError"
word_of ResourceOut = codes "ResourceOut"
word_of MemoryOut = codes "MemoryOut"

-- `% SZS status S for NAME`, and the reason behind it
abbrev pub notice_text : Status → List ℕ → List ℕ → List ℕ
notice_text status name reason = concat (codes "% SZS status " ∷ word_of status ∷ codes " for " ∷ name ∷ codes "\n" ∷ []) ++ reason
