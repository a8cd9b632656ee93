-- The literals of a clause, packed or plain.
use Rattle.std.specs.Prelude.{ℕ, List}
use Rattle.inst_logic.specs.declared.signed.Signed.{Signed}
use Rattle.compact_lists.specs.declared.literals.Kept.{Kept}
use Rattle.compact_lists.specs.declared.literals.Kept.TheVariants.{Packed, Plain}

abbrev pub literals_in : Kept → List (Signed ℕ)
literals_in (Packed literals) = literals.now
literals_in (Plain literals) = literals.now
