-- Literals as they are read, in trees.
use Rattle.std.specs.Prelude.{◌≡◌, ℕ, List, Bool, true, false, if◌then◌else◌, Option, Some, None, codes}
use Rattle.std.specs.Option.{option_map}
use Rattle.inst_logic.specs.Tree.{Tree}
use Rattle.inst_logic.specs.View.{tree}
use Rattle.tptp_read.specs.Stream.{Tok}
use Rattle.tptp_read.specs.declared.literals.Atomic.{Atomic}
use Rattle.tptp_read.specs.Grammar.{Written, is_atom, Negated, no_atom, no_equation, Simple, atom, equation, unequal}
use Rattle.tptp_read.specs.Meaning.{Wrote, predicate, equal, is_truth, tree_of}
use Rattle.tptp_read.specs.Parse.{◌>>=◌, Reads, begins_with, behind, term_at}
use Rattle.tptp_read.specs.ParseClause.{is_unequal}
use Rattle.inst_logic.specs.Codes as byte

-- what is read, by a view
abbrev pub seen : {A V : Type 0} → (A → V) → Option (A × List Tok) → Option (V × List Tok)
seen f read = option_map (λ z. (f z.0, z.1)) read

-- which of `$true` and `$false` a term is
abbrev pub truth_of : Written → Option Bool
truth_of t = if is_truth (codes "$true") t then Some true else (if is_truth (codes "$false") t then Some false else None)

pub record LiteralShape : Type 0 where
  pub positive : Bool
  pub left : Tree
  pub right : Option Tree
  pub truth : Option Bool

abbrev pub shape : Atomic → LiteralShape
shape a = record { positive = a.positive; left = tree a.left; right = option_map tree a.right; truth = a.truth }

abbrev pub shape_of : List (List ℕ) → Wrote → LiteralShape
shape_of vs (predicate sign t) = record { positive = sign; left = tree_of vs t; right = None; truth = truth_of t }
shape_of vs (equal sign t u) = record { positive = sign; left = tree_of vs t; right = Some (tree_of vs u); truth = None }

-- the value is that of the term that is read
abbrev pub IsOfTerm : {A : Type 0} → (Written → A) → List Tok → A → Type 0
IsOfTerm f ts x = (d : ℕ) (z : Written × List Tok) → term_at d ts ≡ Some z → x ≡ f z.0

-- behind `~`, without parentheses
unfoldable pub negated_plain : ℕ → Reads Negated
negated_plain d ts = do
  t ← term_at d ts
  if begins_with byte.equals_sign t.1 then (do
    u ← term_at d (behind t.1)
    Some (no_equation t.0 u.0, u.1))
      else (if is_atom t.0 then Some (no_atom t.0, t.1) else None)

-- without `~`
unfoldable pub simple_plain : ℕ → Reads Simple
simple_plain d ts = do
  t ← term_at d ts
  if begins_with byte.equals_sign t.1 then (do
    u ← term_at d (behind t.1)
    Some (equation t.0 u.0, u.1))
      else (if is_unequal t.1 then (do
        u ← term_at d (behind t.1)
        Some (unequal t.0 u.0, u.1))
      else (if is_atom t.0 then Some (atom t.0, t.1) else None))
