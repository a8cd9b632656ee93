-- Printed trees and clauses, as they are written in the grammar of statements.
use Rattle.std.specs.Prelude.{ℕ, List, [], ◌∷◌, Bool, true, false, ◌&&◌, nat_le, codes, decimal}
use Rattle.inst_logic.specs.declared.symbol.Kind.{Kind}
use Rattle.inst_logic.specs.declared.symbol.Kind.TheVariants.{Predicate, Equality, Function}
use Rattle.inst_logic.specs.declared.signed.Signed.{Signed}
use Rattle.inst_logic.specs.Tree.{Tree, var, app, Trees}
use Rattle.inst_logic.specs.Tree as tree
use Rattle.inst_logic.specs.Clauses.{TreeClause}
use Rattle.inst_logic.specs.Printing.{is_lower_word, is_readable_name, name_text}
use Rattle.tptp_read.specs.declared.kind.TokenKind.{TokenKind}
use Rattle.tptp_read.specs.declared.kind.TokenKind.TheVariants.{LowerWord, Variable, DollarWord, QuotedWord}
use Rattle.tptp_read.specs.Stream.{Tok}
use Rattle.tptp_read.specs.Lexemes.{lower}
use Rattle.tptp_read.specs.Grammar.{Written, single, applied, Writtens, none, more, no_atom, Simple, atom, equation, unequal, negated, simple, Items, last, or, unnoted, Form, cnf}

abbrev pub variable_text : ℕ → List ℕ
variable_text n = 88 ∷ decimal n

abbrev pub variable_tok : ℕ → Tok
variable_tok n = record { kind = Variable; text = variable_text n }

abbrev pub name_kind : Bool → TokenKind
name_kind true = LowerWord
name_kind false = QuotedWord

abbrev pub name_tok : List ℕ → Tok
name_tok n = record { kind = name_kind (is_lower_word n); text = name_text n }

abbrev mutual
  pub written : Tree → Written
  written (var n) = single (variable_tok n)
  written (app s ts) = headed s.name ts

  pub headed : List ℕ → Trees → Written
  headed name tree.none = single (name_tok name)
  headed name (tree.more t ts) = applied (name_tok name) (written t) (writtens ts)

  pub writtens : Trees → Writtens
  writtens tree.none = none
  writtens (tree.more t ts) = more (written t) (writtens ts)

abbrev pub equation_of : Bool → Written → Written → Simple
equation_of true t u = equation t u
equation_of false t u = unequal t u

abbrev pub atom_of : Bool → Written → Simple
atom_of true t = atom t
atom_of false t = negated (no_atom t)

abbrev pub sides_of : Bool → List ℕ → Trees → Simple
sides_of positive name (tree.more t (tree.more u tree.none)) = equation_of positive (written t) (written u)
sides_of positive name ts = atom_of positive (headed name ts)

abbrev pub simple_by : Bool → Kind → List ℕ → Trees → Simple
simple_by positive Predicate name ts = atom_of positive (headed name ts)
simple_by positive Equality name ts = sides_of positive name ts
simple_by positive Function name ts = atom_of positive (headed name ts)

abbrev pub simple_tree : Bool → Tree → Simple
simple_tree positive (var n) = atom_of positive (single (variable_tok n))
simple_tree positive (app s ts) = simple_by positive s.kind s.name ts

abbrev pub simple_of : Signed Tree → Simple
simple_of l = simple_tree l.positive l.atom

abbrev pub items_of : TreeClause → Items
items_of [] = last
items_of (l ∷ ls) = or (simple (simple_of l)) (items_of ls)

abbrev pub false_tok : Tok
false_tok = record { kind = DollarWord; text = codes "$false" }

abbrev pub form_of : TreeClause → Form
form_of [] = cnf (lower (codes "a")) (lower (codes "axiom")) (simple (atom (single false_tok))) last unnoted
form_of (l ∷ ls) = cnf (lower (codes "a")) (lower (codes "axiom")) (simple (simple_of l)) (items_of ls) unnoted

-- ---- trees of which each name is readable, and each variable small

abbrev mutual
  pub good_tree : Tree → Bool
  good_tree (var n) = nat_le n 10000
  good_tree (app s ts) = is_readable_name s.name && good_trees ts

  pub good_trees : Trees → Bool
  good_trees tree.none = true
  good_trees (tree.more t ts) = good_tree t && good_trees ts

abbrev pub good_sides : Trees → Bool
good_sides (tree.more t (tree.more u tree.none)) = good_tree t && good_tree u
good_sides ts = false

abbrev pub good_by : Kind → List ℕ → Trees → Bool
good_by Predicate name ts = is_readable_name name && good_trees ts
good_by Equality name ts = good_sides ts
good_by Function name ts = false

abbrev pub good_atom : Tree → Bool
good_atom (var n) = false
good_atom (app s ts) = good_by s.kind s.name ts

abbrev pub good_literal : Signed Tree → Bool
good_literal l = good_atom l.atom
