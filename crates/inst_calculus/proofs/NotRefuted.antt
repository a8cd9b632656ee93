-- Ground clauses that a test of atoms makes true are not refuted, and the truth test of members is such a test.
use Rattle.std.proofs.Common.{◌≡◌, List, subst as transport, map, filter, Bool, true, false, All, Any, Contains, refl}
use Rattle.std.specs.List.{flat_map}
use Rattle.inst_logic.specs.declared.signed.Signed.{Signed}
use Rattle.inst_logic.specs.Signed.{signed}
use Rattle.inst_logic.specs.Substitution.{clause_vars}
use Rattle.inst_logic.specs.Clauses.{TreeClause, instance, IsGround, IsInstance, IsPart}
use Rattle.inst_logic.specs.Truth.{IsTrueLiteral, IsTrueClause, IsRefuted}
use Rattle.inst_calculus.specs.Models.{SelectedClause, IsTrueBy, Makes}
use Rattle.inst_calculus.proofs.Membership.{◌∈◌, contains_in, in_contains, any_in, in_any, all_in, in_all, in_map, nothing_in}
use Rattle.inst_calculus.proofs.MadeLists.{in_flat_map}
use Rattle.inst_calculus.proofs.Filters.{from_filter, in_filter}
use Rattle.inst_calculus.proofs.Clauses.{literal_of, variable_of}
use Rattle.inst_calculus.proofs.Truth.{dec_true}

-- a literal stays true where its atom does
pub signed_to : (P Q : Type 0) (b : Bool) → (P → Q) → (Q → P) → signed b P → signed b Q
signed_to P Q true to from h = to h
signed_to P Q false to from h = λ q. h (from q)

module _ {A : Type 0} (test : A → Bool) where
  -- the atoms of the clauses
  abbrev all_atoms : List (List (Signed A)) → List A
  all_atoms gs = flat_map (λ g. map (λ (l : Signed A). l.atom) g) gs

  atom_of : (l : Signed A) (g : List (Signed A)) (gs : List (List (Signed A))) → g ∈ gs → l ∈ g → l.atom ∈ all_atoms gs
  atom_of l g gs i j = in_flat_map (λ g. map (λ (l : Signed A). l.atom) g) g l.atom gs i (in_map (λ (k : Signed A). k.atom) l g j)

  -- the valuation is the list of the clauses' atoms that pass
  pub true_by_test : (gs : List (List (Signed A))) → All (IsTrueClause (λ a. test a ≡ true)) gs → ¬ IsRefuted gs
  true_by_test gs makes refuted =
      let v : List A = filter test (all_atoms gs) in
      let (g, i, n) = any_in (λ c. ¬ IsTrueClause (Contains v) c) gs (refuted v) in
      let (l, j, h) = any_in (IsTrueLiteral (λ a. test a ≡ true)) g (all_in (IsTrueClause (λ a. test a ≡ true)) gs makes g i) in
      n (in_any (IsTrueLiteral (Contains v)) l g j
      (signed_to (test l.atom ≡ true) (Contains v l.atom) l.positive
      (λ e. in_contains l.atom v (in_filter test l.atom (all_atoms gs) (atom_of l g gs i j) e))
      (λ c. (from_filter test l.atom (all_atoms gs) (contains_in l.atom v c)).1) h))

-- the answer of a decision
unfoldable pub does : {P : Type 0} → Dec P → Bool
does (yes p) = true
does (no n) = false

pub does_to : {P : Type 0} (d : Dec P) → P → does d ≡ true
unfolding does
does_to (yes p) h = refl
does_to (no n) h = absurd (n h)

pub does_from : {P : Type 0} (d : Dec P) → does d ≡ true → P
unfolding does
does_from (yes p) e = p
does_from (no n) e = absurd (cc)

-- what has the literals of a ground clause is ground
ground_part : (c d : TreeClause) → IsPart d c → IsGround c → IsGround d
ground_part c d part ground = nothing_in (clause_vars d) (λ v i.
    let (l, j, u) = literal_of v d i in
    transport (λ vs. v ∈ vs) ground (variable_of v l c (contains_in l c (all_in (Contains c) d part l j)) u))

module _ (ms : List SelectedClause) (cs : List TreeClause) (makes : All (Makes ms) cs) where
  -- a ground instance of a clause that the members make true is true by them
  pub true_instance : (g : TreeClause) → IsGround g → Any (IsInstance g) cs → IsTrueClause (IsTrueBy ms) g
  true_instance g ground some =
      let (c, i, (s, there, back)) = any_in (IsInstance g) cs some in
      let (l, j, h) = any_in (IsTrueLiteral (IsTrueBy ms)) (instance s c) (all_in (Makes ms) cs makes c i s (ground_part g (instance s c) back ground)) in
      in_any (IsTrueLiteral (IsTrueBy ms)) l g (contains_in l g (all_in (Contains g) (instance s c) back l j)) h

  pub made_not_refuted : (gs : List TreeClause) → All (λ g. IsGround g × Any (IsInstance g) cs) gs → ¬ IsRefuted gs
  made_not_refuted gs instances = true_by_test (λ a. does (dec_true ms a)) gs (in_all (IsTrueClause (λ a. does (dec_true ms a) ≡ true)) gs (λ g i.
      let (ground, some) = all_in (λ g. IsGround g × Any (IsInstance g) cs) gs instances g i in
      let (l, j, h) = any_in (IsTrueLiteral (IsTrueBy ms)) g (true_instance g ground some) in
      in_any (IsTrueLiteral (λ a. does (dec_true ms a) ≡ true)) l g j (signed_to (IsTrueBy ms l.atom) (does (dec_true ms l.atom) ≡ true) l.positive (does_to (dec_true ms l.atom)) (does_from (dec_true ms l.atom)) h)))
