-- What two members conclude.
use Rattle.std.specs.Prelude.{◌≡◌, ◌≢◌, ◌<◌, ℕ, List, length, Option, None, Some}
use Rattle.inst_logic.specs.declared.signed.Signed.{Signed}
use Rattle.inst_logic.specs.Tree.{Tree}
use Rattle.inst_logic.specs.Derivations.{at_number}
use Rattle.inst_logic.specs.Unifiers.{Sided, IsMostGeneral, IsProper}
use Rattle.inst_logic.specs.Clauses.{TreeClause, instance, canonical_form}
use Rattle.inst_logic.specs.WellFormed.{IsAtom}
use Rattle.inst_calculus.specs.Entries.{Entry}
use Rattle.cert_format.specs.Validity.{IsConclusion}
use Rattle.cert_values.specs.declared.member.Member.{Member}
use Rattle.term_bank.specs.Forest.{Forest, IsClauseOf, clause_at, tree_at}
use Rattle.unify_core.specs.Chains.{AreBindings}
use Rattle.unify_core.specs.Sides.{Binding, IsResolvedBy}

-- literal `place` of the clause, where there is a clause
abbrev pub placed_in : Option Member → ℕ → Option (Signed ℕ)
placed_in None place = None
placed_in (Some m) place = at_number m.clause place

-- literal `place` of member `number`
abbrev pub literal_of : List Member → ℕ → ℕ → Option (Signed ℕ)
literal_of ms number place = placed_in (at_number ms number) place

-- the literal's id is that of an atom of the bank
pub record IsAtomOf (f : Forest) (l : Signed ℕ) : Type 0 where
  pub within : l.atom < length f.trees
  pub atom : IsAtom (tree_at f l.atom)

-- the bindings are a most general unifier that is proper for the first tree
pub record IsProperlyUnified (f : Forest) (es : List Binding) (a b : Tree) : Type 0 where
  pub bindings : AreBindings f es
  pub unifier : Sided
  pub resolved : IsResolvedBy f es unifier
  pub most_general : IsMostGeneral unifier a b
  pub proper : IsProper unifier.left a

-- no most general unifier is proper for the first tree
abbrev pub HasNoProper : Tree → Tree → Type 0
HasNoProper a b = (s : Sided) → IsMostGeneral s a b → ¬ (IsProper s.left a)

-- the clause is the canonical instance under a most general unifier of the literals, which have opposite signs
pub record IsConcluded (f g : Forest) (c : List (Signed ℕ)) (l m : Signed ℕ) (d : List (Signed ℕ)) : Type 0 where
  pub opposite : l.positive ≢ m.positive
  pub unifier : Sided
  pub most_general : IsMostGeneral unifier (tree_at f l.atom) (tree_at f m.atom)
  pub proper : IsProper unifier.left (tree_at f l.atom)
  pub ids : IsClauseOf g d
  pub conclusion : clause_at g d ≡ canonical_form (instance unifier.left (clause_at f c))

abbrev pub Concludes : Forest → Forest → List (Signed ℕ) → Signed ℕ → Signed ℕ → Option (List (Signed ℕ)) → Type 0
Concludes f g c l m None = l.positive ≢ m.positive → HasNoProper (tree_at f l.atom) (tree_at f m.atom)
Concludes f g c l m (Some d) = IsConcluded f g c l m d

-- the conclusion of the members, or none where they have none
abbrev pub MembersConclude : Forest → List Entry → (from place partner other : ℕ) → Option (List (Signed ℕ)) → Type 0
MembersConclude g es from place partner other None = (c : TreeClause) → ¬ (IsConclusion es from place partner other c)
MembersConclude g es from place partner other (Some d) = IsClauseOf g d × IsConclusion es from place partner other (clause_at g d)

-- both members come before member n, and conclude the clause
abbrev pub MembersGive : List Entry → (n from place partner other : ℕ) → TreeClause → Type 0
MembersGive es n from place partner other c = (from < n) × (partner < n) × IsConclusion es from place partner other c
