-- Fingerprints of atoms: marks of the symbols at a few places. Atoms with different symbols at one place do not unify.
use Rattle.std.specs.Prelude.{◌≡◌, ◌≢◌, ◌⊎◌, ◌+◌, ◌-◌, ◌*◌, ◌^◌, ◌<◌, ℕ, suc, List, length, min, Option, None, Some, option_map, slice_get, slice_index_or}
use Rattle.inst_logic.specs.declared.symbol.Sym.{Sym}
use Rattle.inst_logic.specs.Tree.{Tree}
use Rattle.cert_format.specs.Certificate as format
use Rattle.cert_values.specs.declared.certificate.Saturation.{Saturation}
use Rattle.cert_values.specs.SelectedLiteral.{IsSelectedLiteral}
use Rattle.term_bank.specs.Forest.{Forest, arguments_of, number_of, symbol_of, tree_at}
use Rattle.inst_logic.specs.declared.signed.Signed.{Signed}
use Rattle.cert_index.specs.Meetings.{IsApart}
use Rattle.cert_index.specs.declared.fingerprint.Fingerprint.{Fingerprint}
use Rattle.cert_index.specs.declared.fingerprint.Marks.{Marks}

-- the argument at the place, where there is one
abbrev pub argument_of : Option Tree → ℕ → Option Tree
argument_of None k = None
argument_of (Some t) k = slice_get (arguments_of t) k

abbrev pub top_of : Option Tree → Option Sym
top_of None = None
top_of (Some t) = symbol_of t

-- 0 stands for a variable and for no tree
abbrev pub mark_of : Option ℕ → ℕ
mark_of None = 0
mark_of (Some number) = min (number + 1) (2 ^ 32 - 1)

-- two marks as the number by which they are hashed
abbrev pub joined : ℕ → ℕ → ℕ
joined m n = m + n * 4294967296

-- the symbol is one of the bank's, so that it keeps its number while the bank grows
pub record IsMark (f : Forest) (o : Option Tree) (m : ℕ) : Type 0 where
  pub is : m ≡ mark_of (option_map (number_of f.symbols) (top_of o))
  pub known : (s : Sym) → top_of o ≡ Some s → number_of f.symbols s < length f.symbols

-- the marks of the first four arguments
pub record HasMarks (f : Forest) (o : Option Tree) (m : Marks) : Type 0 where
  pub first : IsMark f (argument_of o 0) m.first
  pub second : IsMark f (argument_of o 1) m.second
  pub third : IsMark f (argument_of o 2) m.third
  pub fourth : IsMark f (argument_of o 3) m.fourth

pub record HasFingerprint (f : Forest) (t : Tree) (p : Fingerprint) : Type 0 where
  pub own : HasMarks f (Some t) p.own
  pub first : HasMarks f (argument_of (Some t) 0) p.first
  pub second : HasMarks f (argument_of (Some t) 1) p.second

-- both stand for symbols, and for different ones
pub record AreDifferent (m n : ℕ) : Type 0 where
  pub left : m ≢ 0
  pub right : n ≢ 0
  pub differ : m ≢ n

abbrev pub DifferInMarks : Marks → Marks → Type 0
DifferInMarks m n = AreDifferent m.first n.first ⊎ (AreDifferent m.second n.second ⊎ (AreDifferent m.third n.third ⊎ AreDifferent m.fourth n.fourth))

abbrev pub Differ : Fingerprint → Fingerprint → Type 0
Differ p q = DifferInMarks p.own q.own ⊎ (DifferInMarks p.first q.first ⊎ DifferInMarks p.second q.second)

abbrev pub no_marks : Marks
no_marks = record { first = 0; second = 0; third = 0; fourth = 0 }

-- the marks of the atom itself alone
abbrev pub top_marks : Fingerprint → Fingerprint
top_marks p = record { own = p.own; first = no_marks; second = no_marks }

abbrev pub fingerprint_at : List Fingerprint → ℕ → Fingerprint
fingerprint_at ps i = slice_index_or ps i (record { own = no_marks; first = no_marks; second = no_marks })

-- the fingerprint of the selected atom of member i, counted from 0
pub record IsFingerprintOf (c : Saturation) (i : ℕ) (p : Fingerprint) : Type 0 where
  pub literal : Signed ℕ
  pub is : IsSelectedLiteral c (suc i) literal
  pub has : HasFingerprint c.base.bank (tree_at c.base.bank literal.atom) p

-- members whose fingerprints differ are apart
pub record TellApart (c : format.Saturation) (ps : List Fingerprint) : Type 0 where
  pub count : length ps ≡ length c.base.members
  pub apart : (i j : ℕ) → i < j → j < length ps → Differ (fingerprint_at ps i) (fingerprint_at ps j) → IsApart c (suc i) (suc j)
