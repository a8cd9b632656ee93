-- Texts of one ground atom.
use Rattle.std.specs.Prelude.{◌≡◌, ℕ, ◌+◌, ◌<◌, ◌≤◌, List, [], ◌∷◌, Bool, true, false, not, IsTrue, Some, None, ⊤}
use Rattle.std.specs.List.{list_any}
use Rattle.inst_logic.specs.Tree.{Tree}
use Rattle.inst_logic.specs.declared.signed.Signed.{Signed}
use Rattle.tptp_read.specs.Stream.{Tok, IsDone}
use Rattle.tptp_read.specs.declared.statement.Which.TheVariants.{Nesting, Arity}
use Rattle.tptp_read.specs.declared.text.ReadError.{ReadError}
use Rattle.tptp_read.specs.declared.text.ReadError.TheVariants as errors
use Rattle.tptp_read.specs.Lexemes.{Begins, is_variable_kind}
use Rattle.tptp_read.specs.Grammar.{Simple, atom, equation, simple_text, simple_fits}
use Rattle.tptp_read.specs.Meaning.{from_simple, literal_of, first_feature, wrote_wide, is_constant_atom, Fault, syntax_fault, feature, limit}
use Rattle.tptp_read.specs.Rules.{nesting_from}
use Rattle.tptp_read.specs.Limits.{most_nesting}

-- all tokens of the text, in order
pub record AreTokens (text : List ℕ) (ts : List Tok) : Type 0 where
  pub rest : List ℕ
  pub begins : Begins text ts rest
  pub done : IsDone rest

-- at some place before the end no token begins
abbrev pub HasNoTokens : List ℕ → Type 0
HasNoTokens text = (ts : List Tok) → ¬ AreTokens text ts

-- the most brackets open at a token, with one bracket open before the first
abbrev pub nesting_within : List Tok → ℕ
nesting_within ts = nesting_from 1 0 ts

-- an atom without `$true` and `$false` alone
abbrev pub is_plain_atom : Simple → Bool
is_plain_atom (atom t) = not (is_constant_atom t)
is_plain_atom (equation t u) = true
is_plain_atom _ = false

abbrev pub has_variable : List Tok → Bool
has_variable ts = list_any (λ t. is_variable_kind t.kind) ts

-- the tokens are those of an atom without variables
pub record IsAtomForm (ts : List Tok) (a : Simple) : Type 0 where
  pub spelled : simple_text a [] ≡ ts
  pub fits : IsTrue (simple_fits a)
  pub plain : IsTrue (is_plain_atom a)
  pub variable_free : has_variable ts ≡ false

-- the text is this atom, as a positive literal
pub record ReadsAtom (text : List ℕ) (l : Signed Tree) : Type 0 where
  pub tokens : List Tok
  pub are_tokens : AreTokens text tokens
  pub flat : nesting_within tokens < most_nesting + 1
  pub form : Simple
  pub is_form : IsAtomForm tokens form
  pub no_feature : first_feature tokens ≡ None
  pub narrow : wrote_wide (from_simple form) ≡ false
  pub value : literal_of [] (from_simple form) ≡ l ∷ []

-- the first rule that applies to the text of an atom has this fault
pub data OffendsAtom (text : List ℕ) (e : Fault) : Type 0 where
  no_tokens : HasNoTokens text → e ≡ syntax_fault → OffendsAtom text e
  too_deep : (ts : List Tok) → AreTokens text ts → most_nesting + 1 ≤ nesting_within ts → e ≡ limit Nesting → OffendsAtom text e
  no_atom : (ts : List Tok) → AreTokens text ts → nesting_within ts < most_nesting + 1 → ((a : Simple) → ¬ IsAtomForm ts a) → e ≡ syntax_fault → OffendsAtom text e
  refused_feature : (ts : List Tok) → AreTokens text ts → nesting_within ts < most_nesting + 1 → (a : Simple) → IsAtomForm ts a → (w : List ℕ) → first_feature ts ≡ Some w → e ≡ feature w → OffendsAtom text e
  too_wide : (ts : List Tok) → AreTokens text ts → nesting_within ts < most_nesting + 1 → (a : Simple) → IsAtomForm ts a → first_feature ts ≡ None → wrote_wide (from_simple a) ≡ true → e ≡ limit Arity → OffendsAtom text e

-- what an error says of the text of an atom, which counts as the first statement
abbrev pub IsAtomCause : List ℕ → ReadError → Type 0
IsAtomCause text (errors.Syntax k) = (k ≡ 1) × OffendsAtom text syntax_fault
IsAtomCause text (errors.Language k w) = ⊥
IsAtomCause text (errors.Feature k w) = (k ≡ 1) × OffendsAtom text (feature w)
IsAtomCause text (errors.Role k w) = ⊥
IsAtomCause text (errors.Limit k which) = (k ≡ 1) × OffendsAtom text (limit which)
IsAtomCause text errors.Memory = ⊤

-- what the text of an atom is: the atom as a literal, or its first fault
pub data AtomOutcome : Type 0 where
  reads : Signed Tree → AtomOutcome
  faulty : Fault → AtomOutcome

abbrev pub HasAtom : List ℕ → AtomOutcome → Type 0
HasAtom text (reads l) = ReadsAtom text l
HasAtom text (faulty e) = OffendsAtom text e

-- exactly one of the two holds, for exactly one value
pub record IsDecidedAtom (text : List ℕ) : Type 0 where
  pub outcome : AtomOutcome
  pub holds : HasAtom text outcome
  pub only : (o : AtomOutcome) → HasAtom text o → o ≡ outcome
