-- What is gathered of a disjunction while it is read.
use Rattle.std.specs.Prelude.{ℕ, ◌+◌, List, [], ◌∷◌, ◌++◌, Bool, true, false, not, ◌||◌, nat_le, Option, Some, None}
use Rattle.std.specs.Option.{option_map}
use Rattle.inst_logic.specs.Tree.{Tree, var, app, Trees}
use Rattle.inst_logic.specs.Tree as tree
use Rattle.inst_logic.specs.declared.signed.Signed.{Signed}
use Rattle.inst_logic.specs.declared.symbol.Kind.TheVariants.{Predicate, Equality}
use Rattle.tptp_read.specs.declared.clause.Literals.{Literals}
use Rattle.tptp_read.specs.Meaning.{Wrote, literal_of, is_always, first_feature, used_tokens}
use Rattle.tptp_read.specs.Shapes.{LiteralShape}
use Rattle.inst_logic.specs.Codes as byte
use Rattle.tptp_read.specs.Limits.{most_arguments}

pub record Gathered : Type 0 where
  pub clause : List (Signed Tree)
  pub always : Bool
  pub feature : Option (List ℕ)

abbrev pub gathered : Literals → Gathered
gathered l = record { clause = l.clause; always = l.always; feature = option_map (λ b. b.now) l.feature }

abbrev pub or_else : {A : Type 0} → Option A → Option A → Option A
or_else (Some x) y = Some x
or_else None y = y

abbrev pub nothing : Gathered
nothing = record { clause = []; always = false; feature = None }

abbrev pub gather : List (List ℕ) → Gathered → Wrote → Gathered
gather vs g w = record { clause = g.clause ++ literal_of vs w; always = g.always || is_always w; feature = or_else g.feature (first_feature (used_tokens w)) }

-- ---- the same from what was read of a literal

abbrev pub atom_literals : Bool → Tree → List (Signed Tree)
atom_literals sign (var n) = []
atom_literals sign (app s ts) = record { positive = sign; atom = app (record { kind = Predicate; name = s.name; arity = s.arity }) ts } ∷ []

abbrev pub equation_literal : Bool → Tree → Tree → Signed Tree
equation_literal sign t u = record { positive = sign; atom = app (record { kind = Equality; name = byte.equals_sign ∷ []; arity = 2 }) (tree.more t (tree.more u tree.none)) }

abbrev pub side_literals : Bool → Tree → Option Tree → List (Signed Tree)
side_literals sign t None = atom_literals sign t
side_literals sign t (Some u) = equation_literal sign t u ∷ []

-- whether `$true` or `$false` with this sign holds
abbrev pub is_so : Bool → Bool → Bool
is_so true truth = truth
is_so false truth = not truth

abbrev pub put_as : Option Bool → Gathered → LiteralShape → Option (List ℕ) → Gathered
put_as (Some truth) g s f = record { clause = g.clause; always = g.always || is_so s.positive truth; feature = g.feature }
put_as None g s f = record { clause = g.clause ++ side_literals s.positive s.left s.right; always = g.always; feature = or_else g.feature f }

abbrev pub put : Gathered → LiteralShape → Option (List ℕ) → Gathered
put g s f = put_as s.truth g s f

-- ---- symbols with too many arguments

abbrev mutual
  pub tree_wide : Tree → Bool
  tree_wide (var n) = false
  tree_wide (app s ts) = nat_le (most_arguments + 1) s.arity || trees_wide ts

  pub trees_wide : Trees → Bool
  trees_wide tree.none = false
  trees_wide (tree.more t ts) = tree_wide t || trees_wide ts

abbrev pub literal_wide : Signed Tree → Bool
literal_wide l = tree_wide l.atom
