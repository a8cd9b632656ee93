-- The formats by their numbers, and the machine of their lines: which lines follow which, and what is taken.
use Rattle.std.specs.Prelude.{ℕ, List, [], ◌∷◌, Bool, false, ◌&&◌, ◌||◌, nat_eq, ◌≡◌, Option, Some}
use Rattle.std.specs.List.{list_all}
use Rattle.std.specs.Str.{bytes_eq}
use Rattle.inst_logic.specs.declared.symbol.Kind.{Kind}
use Rattle.inst_logic.specs.declared.symbol.Kind.TheVariants.{Predicate, Equality, Function}
use Rattle.inst_logic.specs.declared.signed.Signed.{Signed}
use Rattle.inst_logic.specs.Tree.{Tree, var, app}
use Rattle.inst_logic.specs.WellFormed.{count_of}
use Rattle.inst_logic.specs.Clauses.{TreeClause, canonical_form}
use Rattle.inst_logic.specs.Printing.{is_readable_name}
use Rattle.cert_format.specs.Spelling.{are_printable}
use Rattle.cert_format.specs.LineMachine.{Note, Item, Header, Line, State, nothing}
pub use Rattle.cert_format.specs.LineMachine.{clause_eq}
use Rattle.cert_format.specs.LineMachine as machine
use Rattle.cert_format.specs.Machines as runs
use Rattle.cert_format.specs.Machines.{Ends, IsTaken, IsExact}
use Rattle.cert_format.specs.LineTexts.{line_text, is_text_name, note_is_printable}
use Rattle.inst_logic.specs.Codes as byte

-- ---- numbers

-- the format in which certificates are written
abbrev pub written_format : ℕ
written_format = 3

-- The formats that are read. The first has no parts of conclusions, the second names the inputs and terms of ground clauses,
-- and the third also what covers the clauses of a saturation.
abbrev pub is_known : ℕ → Bool
is_known f = nat_eq f 1 || (nat_eq f 2 || nat_eq f 3)

-- ---- clauses that can be printed

-- the atom's symbol, with its arguments, can be printed
abbrev pub symbol_is_printable : Kind → List ℕ → ℕ → ℕ → Bool
symbol_is_printable Predicate name arity count = is_readable_name name && nat_eq count arity
symbol_is_printable Equality name arity count = bytes_eq name (byte.equals_sign ∷ []) && (nat_eq arity 2 && nat_eq count 2)
symbol_is_printable Function name arity count = false

abbrev pub atom_is_printable : Tree → Bool
atom_is_printable (var n) = false
atom_is_printable (app s ts) = symbol_is_printable s.kind s.name s.arity (count_of ts) && are_printable ts

abbrev pub clause_is_printable : TreeClause → Bool
clause_is_printable c = list_all (λ (l : Signed Tree). atom_is_printable l.atom) c && clause_eq (canonical_form c) c

-- ---- the machine

abbrev pub may_follow : Header → List Item → ℕ → TreeClause → Note → Bool
may_follow = machine.may_follow is_known is_text_name clause_is_printable note_is_printable

abbrev pub step : State → Line → Option State
step = machine.step is_known is_text_name clause_is_printable note_is_printable

abbrev pub is_done : State → Bool
is_done = machine.is_done is_known is_text_name clause_is_printable note_is_printable

-- the lines lead from nothing to the state, each following those before it
abbrev pub Leads : List Line → State → Type 0
Leads ls s = runs.run line_text step is_done nothing ls ≡ Some s

-- the lines lead from nothing to the end
abbrev pub AreLines : List Line → Type 0
AreLines ls = Ends line_text step is_done nothing ls

abbrev pub text_of_lines : List Line → List ℕ
text_of_lines ls = runs.texts line_text step is_done ls

abbrev pub IsText : List ℕ → Type 0
IsText = IsTaken line_text step is_done nothing
