-- The atom that words ask for is one, without variables.
use Rattle.std.proofs.Common.{◌≡◌, true, ℕ, List, Option, None, Some}
use Rattle.inst_logic.specs.Tree.{Tree}
use Rattle.inst_logic.specs.WellFormed.{IsAtom}
use Rattle.inst_logic.specs.declared.signed.Signed.{Signed}
use Rattle.term_bank.specs.Forest.{is_ground}
use Rattle.tptp_read.specs.Atoms.{ReadsAtom}
use Rattle.tptp_read.proofs.ReadableLaws.{atom_formed}
use Rattle.command_words.specs.Asked.{IsAsked, SaysAtom, ask}

said_text : (given : Option (List ℕ)) (atom : Signed Tree) → SaysAtom given atom → (text : List ℕ) × ReadsAtom text atom
said_text None atom h = absurd h
said_text (Some text) atom h = (text, h)

pub asked_atom_is_formed : (words : List (List ℕ)) (cert : List ℕ) (atom : Signed Tree) → IsAsked words (ask cert atom) → IsAtom atom.atom
asked_atom_is_formed words cert atom h =
    let said = said_text _ atom h.says.1 in
    atom_formed said.0 atom said.1

pub asked_atom_is_free : ((text : List ℕ) (l : Signed Tree) → ReadsAtom text l → is_ground l.atom ≡ true)
    → (words : List (List ℕ)) (cert : List ℕ) (atom : Signed Tree) → IsAsked words (ask cert atom) → is_ground atom.atom ≡ true
asked_atom_is_free law words cert atom h =
    let said = said_text _ atom h.says.1 in
    law said.0 atom said.1
