-- What is named for a clause: a member that covers it, or that it is a tautology.
use Rattle.std.specs.Prelude.{◌≡◌, ◌⊎◌, ℕ, suc, List, All, Any, length, map, slice_index_or, Some}
use Rattle.inst_logic.specs.declared.signed.Signed.{Signed}
use Rattle.inst_logic.specs.Signed.{IsTautology}
use Rattle.inst_logic.specs.Clauses.{TreeClause, Subsumes, canonical_form, instance}
use Rattle.inst_logic.specs.Unifiers.{Sided}
use Rattle.inst_calculus.specs.Axioms.{with_axioms}
use Rattle.inst_calculus.specs.Models.{SelectedClause}
use Rattle.inst_logic.specs.Derivations.{at_number}
use Rattle.cert_format.specs.TermLists.{HoldsBy, IsPartBy, Justifies}
use Rattle.cert_format.specs.Validity.{SelectsAt}
use Rattle.cert_values.specs.declared.certificate.By.{By}
use Rattle.cert_values.specs.declared.certificate.By.TheVariants.{Part}
use Rattle.cert_values.specs.declared.certificate.Saturation.{Saturation}
use Rattle.cert_values.specs.declared.member.Member.{Member}
use Rattle.cert_values.specs.Values.{by_of, entry_of, saturation_of}
use Rattle.cert_values.specs.Wholes.{IsWholeBy, IsWholeClause, IsWholeTerm}
use Rattle.term_bank.specs.Forest.{Forest, clause_at, tree_at}
use Rattle.unify_core.specs.Sides.{Binding, IsResolvedBy, of_side}
use Rattle.unify_core.specs.declared.side.Side.{Side}
use Rattle.cert_check.specs.Covers.{IsCoveredIn}
use Rattle.cert_check.specs.declared.naming.Named.{Named}

-- the member at the place is named, with terms under which its literals are all in the clause; f is the bank before, g after
pub record IsPartOf (f g : Forest) (ms : List Member) (k : ℕ) (c : List (Signed ℕ)) (by : By) : Type 0 where
  pub terms : List ℕ
  pub is : by ≡ Part (suc k) terms
  pub whole : All (IsWholeTerm g) terms
  pub part : (m : Member) → IsPartBy (clause_at f (slice_index_or ms k m).clause) (clause_at f c) (map (tree_at g) terms)

-- what is named covers the clause, an instance of one with n literals
pub record IsCoverBy (f g : Forest) (ms : List Member) (n : ℕ) (c : List (Signed ℕ)) (by : By) : Type 0 where
  pub covered : IsCoveredIn f ms n c
  pub whole : IsWholeBy g by
  pub holds : (w : TreeClause) → length w ≡ n → HoldsBy (map (entry_of f) ms) w (clause_at f c) (by_of g by)

-- the clause is the canonical instance of the side's clause, and what is named covers it
pub record NamesInstance (f g : Forest) (es : List Binding) (x : Side) (ms : List Member) (c : List (Signed ℕ)) (d : Named) : Type 0 where
  pub clause : IsWholeClause g d.clause
  pub by : IsWholeBy g d.by
  pub is : (s : Sided) → IsResolvedBy f es s → clause_at g d.clause ≡ canonical_form (instance (of_side s x) (clause_at f c))
  pub holds : HoldsBy (map (entry_of f) ms) (clause_at f c) (clause_at g d.clause) (by_of g d.by)

-- and of the member with this number
pub record NamesSide (old new : Saturation) (es : List Binding) (x : Side) (n : ℕ) (d : Named) : Type 0 where
  pub clause : IsWholeClause new.base.bank d.clause
  pub by : IsWholeBy new.base.bank d.by
  pub names : (s : Sided) → IsResolvedBy old.base.bank es s → (m : SelectedClause) → SelectsAt (saturation_of old) n m
      → (clause_at new.base.bank d.clause ≡ canonical_form (instance (of_side s x) m.clause)) × HoldsBy (saturation_of old).base.members m.clause (clause_at new.base.bank d.clause) (by_of new.base.bank d.by)

-- what is named justifies the input or axiom
pub record JustifiesInput (old new : Saturation) (k : ℕ) (by : By) : Type 0 where
  pub whole : IsWholeBy new.base.bank by
  pub justified : (d : TreeClause) → at_number (with_axioms (saturation_of old).base.inputs) k ≡ Some d → Justifies (saturation_of old).base.members d (by_of new.base.bank by)

-- what is named justifies the clause; f is the bank before, g after
pub record IsShownBy (f g : Forest) (ms : List Member) (c : List (Signed ℕ)) (by : By) : Type 0 where
  pub whole : IsWholeBy g by
  pub justified : Justifies (map (entry_of f) ms) (clause_at f c) (by_of g by)
  pub met : IsTautology (clause_at f c) ⊎ Any (λ m. Subsumes (clause_at f m.clause) (clause_at f c)) ms

-- nothing can show it
abbrev pub IsUnshown : Forest → List Member → List (Signed ℕ) → Type 0
IsUnshown f ms c = ¬ (IsTautology (clause_at f c) ⊎ Any (λ m. Subsumes (clause_at f m.clause) (clause_at f c)) ms)
