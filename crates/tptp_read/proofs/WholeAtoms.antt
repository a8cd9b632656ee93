-- From what the tokens of an atom are to its text.
use Rattle.std.proofs.Common.{◌≡◌, ℕ, ◌<◌, List, Option, Some, Result, Ok, Err, refl, subst}
use Rattle.std.specs.Prelude.{IfErr, MatchOption}
use Rattle.inst_logic.specs.declared.clause.Literal.{Literal}
use Rattle.inst_logic.specs.LiteralView.{literal}
use Rattle.tptp_read.specs.Stream.{Tok}
use Rattle.tptp_read.specs.declared.text.ReadError.{ReadError}
use Rattle.tptp_read.specs.declared.text.ReadError.TheVariants as errors
use Rattle.tptp_read.specs.Meaning.{limit}
use Rattle.tptp_read.specs.Atoms.{AreTokens, nesting_within, ReadsAtom, no_atom, refused_feature, too_wide, IsAtomCause}
use Rattle.tptp_read.specs.AtomReading.{AtomOf}

pub reads_atom : (text : List ℕ) (ts : List Tok) (l : Literal) → AreTokens text ts → nesting_within ts < 257 → AtomOf ts (Ok l) → ReadsAtom text (literal l)
reads_atom text ts l are flat a = record { tokens = ts; are_tokens = are; flat = flat; form = a.0; is_form = a.1; no_feature = a.2; narrow = a.3; value = a.4 }

pub atom_cause : (text : List ℕ) (ts : List Tok) (e : ReadError) → AreTokens text ts → nesting_within ts < 257 → AtomOf ts (Err e) → IsAtomCause text e
atom_cause text ts (errors.Syntax k) are flat a = (a.0, no_atom ts are flat a.1 refl)
atom_cause text ts (errors.Language k w) are flat a = a
atom_cause text ts (errors.Feature k w) are flat a = (a.0, refused_feature ts are flat a.1 a.2 _ a.3 refl)
atom_cause text ts (errors.Role k w) are flat a = a
atom_cause text ts (errors.Limit k which) are flat a = (a.0, too_wide ts are flat a.2 a.3 a.4 a.5 (λ i. limit (a.1 i)))
atom_cause text ts errors.Memory are flat a = tt

pub cause_of : (text : List ℕ) (ts : List Tok) (r : Result Literal ReadError) → AreTokens text ts → nesting_within ts < 257 → AtomOf ts r → IfErr r (IsAtomCause text)
cause_of text ts (Ok l) are flat a = tt
cause_of text ts (Err e) are flat a = atom_cause text ts e are flat a

pub some_of : {A : Type 0} (N : Type 0) (P : A → Type 0) (o : Option A) (v : A) → o ≡ Some v → MatchOption o N P → P v
some_of N P o v e h = subst (λ x. MatchOption x N P) e h
