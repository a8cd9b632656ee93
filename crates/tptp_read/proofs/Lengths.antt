-- A statement has more tokens than open brackets.
use Rattle.std.proofs.Common.{◌+◌, ◌≤◌, List, ◌∷◌, length, arith}
use Rattle.tptp_read.specs.Stream.{Tok}
use Rattle.tptp_read.specs.Lexemes.{mark}
use Rattle.tptp_read.specs.Grammar.{Written, single, applied, Writtens, none, more, term, terms, Negated, no_atom, no_equation, in_parens, negated_text, Simple, atom, equation, unequal, negated, simple_text, unequal_mark, Item, simple, nested, Items, last, or, item, items}
use Rattle.tptp_read.proofs.ParseLaws.{depth, depths}
use Rattle.tptp_read.proofs.ClauseLaws.{negated_depth}
use Rattle.tptp_read.proofs.ItemLaws.{simple_depth, item_depth, items_depth}

mutual
  term_deep_len : (t : Written) (rest : List Tok) → length rest + depth t ≤ length (term t rest)
  term_deep_len (single t) rest = omega arith
  term_deep_len (applied f t ts) rest = omega (arith, term_deep_len t (terms ts (mark 41 ∷ rest)), terms_deep_len ts (mark 41 ∷ rest))

  terms_deep_len : (ts : Writtens) (rest : List Tok) → length rest + depths ts ≤ length (terms ts rest)
  terms_deep_len none rest = omega arith
  terms_deep_len (more t ts) rest = omega (arith, term_deep_len t (terms ts rest), terms_deep_len ts rest)

negated_deep_len : (n : Negated) (rest : List Tok) → length rest + negated_depth n ≤ length (negated_text n rest)
negated_deep_len (no_atom t) rest = term_deep_len t rest
negated_deep_len (no_equation t u) rest = omega (arith, term_deep_len t (mark 61 ∷ term u rest), term_deep_len u rest)
negated_deep_len (in_parens n) rest = omega (arith, negated_deep_len n (mark 41 ∷ rest))

simple_deep_len : (s : Simple) (rest : List Tok) → length rest + simple_depth s ≤ length (simple_text s rest)
simple_deep_len (atom t) rest = term_deep_len t rest
simple_deep_len (equation t u) rest = omega (arith, term_deep_len t (mark 61 ∷ term u rest), term_deep_len u rest)
simple_deep_len (unequal t u) rest = omega (arith, term_deep_len t (unequal_mark ∷ term u rest), term_deep_len u rest)
simple_deep_len (negated n) rest = omega (arith, negated_deep_len n rest)

mutual
  pub item_deep_len : (i : Item) (rest : List Tok) → length rest + item_depth i ≤ length (item i rest)
  item_deep_len (simple s) rest = simple_deep_len s rest
  item_deep_len (nested i is) rest = omega (arith, item_deep_len i (items is (mark 41 ∷ rest)), items_deep_len is (mark 41 ∷ rest))

  pub items_deep_len : (is : Items) (rest : List Tok) → length rest + items_depth is ≤ length (items is rest)
  items_deep_len last rest = omega arith
  items_deep_len (or i is) rest = omega (arith, item_deep_len i (items is rest), items_deep_len is rest)
