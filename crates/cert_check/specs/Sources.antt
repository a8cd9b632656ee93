-- Of which input or axiom members are instances, as their origins tell, and by which terms.
use Rattle.std.specs.Prelude.{◌≡◌, ℕ, List, length, map, All, Some}
use Rattle.inst_logic.specs.declared.signed.Signed.{Signed}
use Rattle.inst_logic.specs.declared.symbol.Sym.{Sym}
use Rattle.inst_logic.specs.Tree.{Tree, var}
use Rattle.inst_logic.specs.Substitution.{Substitution}
use Rattle.inst_logic.specs.Clauses.{TreeClause, order_of}
use Rattle.inst_logic.specs.Derivations.{at_number}
use Rattle.inst_logic.specs.Unifiers.{Sided, IsUnifier, IsMostGeneral}
use Rattle.inst_calculus.specs.Axioms.{with_axioms}
use Rattle.inst_calculus.specs.Conclusions.{IsConclusion}
use Rattle.inst_calculus.specs.Entries.{Entry}
use Rattle.cert_format.specs.Certificate.{Base}
use Rattle.cert_format.specs.Upgrades.{LeadsTo, GivesTerms}
use Rattle.cert_format.specs.Validity.{IsRightFirstMember}
use Rattle.term_bank.specs.Forest.{Forest, clause_at, tree_at}
use Rattle.clause_form.specs.Conclusions.{AreTermsOf}
use Rattle.cert_values.specs.declared.certificate.GroundLine.{GroundLine}
use Rattle.cert_values.specs.Wholes.{IsWholeTerm}
use Rattle.cert_check.specs.declared.source.Source.{Source}

-- the trees, renamed apart, have a unifier
abbrev pub Unify : Tree → Tree → Type 0
Unify a b = (s : Sided) × IsUnifier s a b

-- the entries conclude something
abbrev pub Conclude : List Entry → (from place partner other : ℕ) → Type 0
Conclude es from place partner other = (c : TreeClause) × IsConclusion es from place partner other c

-- what the variables of the clause become under a most general unifier of the literals, over the variables of its canonical instance
pub record AreUnifiedTerms (f g : Forest) (c : List (Signed ℕ)) (l m : Signed ℕ) (ids : List ℕ) : Type 0 where
  pub unifier : Sided
  pub most_general : IsMostGeneral unifier (tree_at f l.atom) (tree_at f m.atom)
  pub terms : AreTermsOf g unifier.left (clause_at f c) ids

-- what the variables of the first entry become in what it concludes
pub record AreConclusionTerms (g : Forest) (es : List Entry) (from place partner other : ℕ) (ids : List ℕ) : Type 0 where
  pub entry : Entry
  pub partner_entry : Entry
  pub literal : Signed Tree
  pub other_literal : Signed Tree
  pub entry_at : at_number es from ≡ Some entry
  pub partner_at : at_number es partner ≡ Some partner_entry
  pub literal_at : at_number entry.clause place ≡ Some literal
  pub other_at : at_number partner_entry.clause other ≡ Some other_literal
  pub unifier : Sided
  pub most_general : IsMostGeneral unifier literal.atom other_literal.atom
  pub terms : AreTermsOf g unifier.left entry.clause ids

-- the members are what their origins give, which are no lemmas
abbrev pub AreFirstMembers : Base → Type 0
AreFirstMembers b = (n : ℕ) → IsRightFirstMember b n

-- member n leads to the input or axiom, and to the terms for its variables over the member's own
pub record IsSource (f : Forest) (b : Base) (n : ℕ) (s : Source) : Type 0 where
  pub clause : TreeClause
  pub clause_at : at_number (with_axioms b.inputs) s.input ≡ Some clause
  pub unifier : Substitution
  pub leads : LeadsTo b s.input unifier n var
  pub are : map (tree_at f) s.terms ≡ map unifier (order_of clause)
  pub terms : All (IsWholeTerm f) s.terms

-- the sources of the first members, of so many
pub record AreSources (f : Forest) (b : Base) (count : ℕ) (sources : List Source) : Type 0 where
  pub count_of : length sources ≡ count
  pub each : (n : ℕ) (s : Source) → at_number sources n ≡ Some s → IsSource f b n s

-- the ground clauses in order, each with what its member leads to under the constant
pub record AreGroundLines (f : Forest) (b : Base) (bot : Sym) (grounds : List (List (Signed ℕ))) (lines : List GroundLine) : Type 0 where
  pub clauses : map (λ l. l.clause) lines ≡ grounds
  pub terms : All (λ l. All (IsWholeTerm f) l.terms) lines
  pub origins : (n : ℕ) (l : GroundLine) → at_number lines n ≡ Some l → GivesTerms b bot n l.input (map (tree_at f) l.terms)
