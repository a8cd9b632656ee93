-- What a text says of an atom.
use Rattle.std.proofs.Common.{◌≡◌, ◌∙◌, ℕ, List, false, sym}
use Rattle.inst_logic.specs.Tree.{Tree}
use Rattle.inst_logic.specs.declared.signed.Signed.{Signed}
use Rattle.tptp_read.specs.Atoms.{AtomOutcome, IsAtomCause, OffendsAtom, ReadsAtom, reads, faulty}
use Rattle.tptp_read.specs.Meaning.{Fault}
use Rattle.tptp_read.specs.declared.text.ReadError.{ReadError}
use Rattle.tptp_read.specs.declared.text.ReadError.TheVariants as errors
use Rattle.tptp_read.proofs.AtomLaw.{one_atom}
use Rattle.command_words.specs.Errors.{wants_memory}

same_outcome : (text : List ℕ) (o p : AtomOutcome) → o ≡ (one_atom text).outcome → p ≡ (one_atom text).outcome → o ≡ p
same_outcome text o p e f = e ∙ sym f

injective : (a b : Signed Tree) → reads a ≡ reads b → a ≡ b
injective a b e = cc

pub same_reading : (text : List ℕ) (a b : Signed Tree) → ReadsAtom text a → ReadsAtom text b → a ≡ b
same_reading text a b h k = injective a b (same_outcome text (reads a) (reads b) ((one_atom text).only (reads a) h) ((one_atom text).only (reads b) k))

faulty_reads : (text : List ℕ) (e : Fault) (a : Signed Tree) → OffendsAtom text e → ReadsAtom text a → ⊥
faulty_reads text e a h k =
    let same = same_outcome text (faulty e) (reads a) ((one_atom text).only (faulty e) h) ((one_atom text).only (reads a) k) in
    cc

-- a text that is refused is no atom
pub refused_is_no_atom : (text : List ℕ) (e : ReadError) → IsAtomCause text e → wants_memory e ≡ false → (a : Signed Tree) → ReadsAtom text a → ⊥
refused_is_no_atom text (errors.Syntax k) h other a r = faulty_reads text _ a h.1 r
refused_is_no_atom text (errors.Language k w) h other a r = absurd h
refused_is_no_atom text (errors.Feature k w) h other a r = faulty_reads text _ a h.1 r
refused_is_no_atom text (errors.Role k w) h other a r = absurd h
refused_is_no_atom text (errors.Limit k which) h other a r = faulty_reads text _ a h.1 r
refused_is_no_atom text errors.Memory h other a r = absurd cc
