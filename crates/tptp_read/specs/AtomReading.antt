-- What is answered of the tokens of a text that is to be an atom.
use Rattle.std.specs.Prelude.{◌≡◌, List, [], ◌∷◌, true, false, None, Some, Result, Ok, Err, ⊤}
use Rattle.inst_logic.specs.declared.clause.Literal.{Literal}
use Rattle.inst_logic.specs.LiteralView.{literal}
use Rattle.tptp_read.specs.Stream.{Tok}
use Rattle.tptp_read.specs.declared.statement.Which.TheVariants.{Arity}
use Rattle.tptp_read.specs.declared.stop.Stop.{Stop}
use Rattle.tptp_read.specs.declared.stop.Stop.TheVariants as stops
use Rattle.tptp_read.specs.declared.text.ReadError.{ReadError}
use Rattle.tptp_read.specs.declared.text.ReadError.TheVariants as errors
use Rattle.tptp_read.specs.Grammar.{Simple}
use Rattle.tptp_read.specs.Meaning.{from_simple, literal_of, first_feature, wrote_wide}
use Rattle.tptp_read.specs.Atoms.{IsAtomForm}

-- the tokens are an atom with this literal, or none
abbrev pub FormOf : List Tok → Result Literal Stop → Type 0
FormOf ts (Ok l) = (a : Simple) × IsAtomForm ts a × (literal_of [] (from_simple a) ≡ literal l ∷ [])
FormOf ts (Err stops.Memory) = ⊤
FormOf ts (Err stops.Wrong) = (a : Simple) → ¬ IsAtomForm ts a

-- and without features, and no symbol of it is too wide
abbrev pub AtomOf : List Tok → Result Literal ReadError → Type 0
AtomOf ts (Ok l) = (a : Simple) × IsAtomForm ts a × (first_feature ts ≡ None) × (wrote_wide (from_simple a) ≡ false) × (literal_of [] (from_simple a) ≡ literal l ∷ [])
AtomOf ts (Err (errors.Syntax k)) = (k ≡ 1) × ((a : Simple) → ¬ IsAtomForm ts a)
AtomOf ts (Err (errors.Language k w)) = ⊥
AtomOf ts (Err (errors.Feature k w)) = (k ≡ 1) × (a : Simple) × IsAtomForm ts a × (first_feature ts ≡ Some w)
AtomOf ts (Err (errors.Role k w)) = ⊥
AtomOf ts (Err (errors.Limit k which)) = (k ≡ 1) × (which ≡ Arity) × (a : Simple) × IsAtomForm ts a × (first_feature ts ≡ None) × (wrote_wide (from_simple a) ≡ true)
AtomOf ts (Err errors.Memory) = ⊤
