-- The input clauses as ids, beside the clauses of a problem.
use Rattle.std.proofs.Common.{◌≡◌, ℕ, zero, suc, ◌+◌, ◌<◌, ◌≤◌, List, [], ◌∷◌, refl, ap, sym, ◌∙◌, map, subst, arith, length, Bool, false, get_or}
use Rattle.std.specs.Prelude.{All, IsTrue, ◌↔◌, Option, None, Some, slice_get, option_map}
use Rattle.std.proofs.lemmas.List.{length-map}
use Rattle.std.proofs.lemmas.Option.{slice_get-map}
use Rattle.inst_logic.specs.declared.signed.Signed.{Signed}
use Rattle.inst_logic.specs.declared.clause.Problem.{Problem}
use Rattle.inst_logic.specs.Clauses.{TreeClause}
use Rattle.inst_logic.specs.Derivations.{at_number}
use Rattle.inst_logic.specs.WellFormed.{AreFormedClauses, IsFormedClause}
use Rattle.inst_logic.proofs.ShownLaws.{at_number_contains}
use Rattle.inst_calculus.proofs.Membership.{all_in, in_all, contains_in}
use Rattle.term_bank.specs.Forest.{Forest, Extends, AreDistinct, IsClauseAt, IsClauseOf, clause_at}
use Rattle.term_bank.proofs.Clauses.{clause_extends, clause_of_extends, formed_at}
use Rattle.cert_format.specs.Certificate as format
use Rattle.cert_values.specs.Wholes.{IsWholeClause}
use Rattle.cert_check.specs.Firsts.{IsFirstWrong, IsFirstWrongOf}
use Rattle.cert_check.proofs.Differences.{same_ids, first_difference, no_difference}
use Rattle.cert_front.specs.Judgements.{IsDifference}
use Rattle.inst_logic.proofs.Items.{lists_equal}

abbrev pub Ids : Type 0
Ids = List (Signed ℕ)

pub not_true : (b x : Bool) → b ≡ x → b ≡ false → ¬ IsTrue x
not_true b x e n t = absurd (cc)

-- ids stand for a clause exactly where they are the clause's own ids
pub stands : (f g : Forest) → Extends f g → AreDistinct g.trees → (c own : Ids) (d : TreeClause) → IsClauseOf f c → IsClauseAt g own d → (b : Bool) → IsTrue b ↔ (c ≡ own) → IsTrue b ↔ (clause_at f c ≡ d)
stands f g grown once c own d ids at b same = (
  (λ t. sym (clause_extends f g grown c ids) ∙ ap (clause_at g) (same.0 t) ∙ at.1),
  (λ e. same.1 (same_ids g once c own (clause_of_extends f g grown c ids) at.0 (clause_extends f g grown c ids ∙ e ∙ sym at.1))),
)

-- the ids of a list as the bank grows
pub all_grown : (f g : Forest) → Extends f g → (cs : List Ids) → All (IsClauseOf f) cs → All (IsClauseOf g) cs
all_grown f g grown cs h = in_all (IsClauseOf g) cs (λ c i. clause_of_extends f g grown c (all_in (IsClauseOf f) cs h c i))

pub ids_at : (f : Forest) (cs : List Ids) → All (IsClauseOf f) cs → (i : ℕ) (c : Ids) → slice_get cs i ≡ Some c → IsClauseOf f c
ids_at f cs h i c at = all_in (IsClauseOf f) cs h c (contains_in c cs (at_number_contains cs (suc i) c at))

pub clause_formed_at : (ds : List TreeClause) → AreFormedClauses ds → (i : ℕ) (d : TreeClause) → slice_get ds i ≡ Some d → IsFormedClause d
clause_formed_at ds h i d at = formed_at ds i d h (within ds i at) (is ds i at)
  where
    within : (xs : List TreeClause) (k : ℕ) → slice_get xs k ≡ Some d → k < length xs
    within [] k e = absurd (cc)
    within (x ∷ xs) zero e = omega arith
    within (x ∷ xs) (suc k) e = let l = within xs k e in omega arith

    is : (xs : List TreeClause) (k : ℕ) → slice_get xs k ≡ Some d → d ≡ get_or xs k d
    is [] k e = refl
    is (x ∷ xs) zero e = let same : x ≡ d = cc in sym same
    is (x ∷ xs) (suc k) e = is xs k e

-- the clause there stays as the bank grows
pub same_there : (f g : Forest) → Extends f g → (cs : List Ids) → All (IsClauseOf f) cs → (i : ℕ) → option_map (clause_at g) (slice_get cs i) ≡ option_map (clause_at f) (slice_get cs i)
same_there f g grown cs h i = by (slice_get cs i) (λ c at. ids_at f cs h i c at)
  where
    by : (o : Option Ids) → ((c : Ids) → o ≡ Some c → IsClauseOf f c) → option_map (clause_at g) o ≡ option_map (clause_at f) o
    by None ids = refl
    by (Some c) ids = ap (λ x. Some x) (clause_extends f g grown c (ids c refl))

-- what both lists have at a place
module _ (f : Forest) where
  some_same : (x y : TreeClause) → Some x ≡ Some y → x ≡ y
  some_same x y e = cc

  pub both_there : (c : Ids) (d : TreeClause) (y : Option TreeClause) → Some d ≡ y → (b : Bool) → IsTrue b ↔ (clause_at f c ≡ d) → IsTrue b ↔ (Some (clause_at f c) ≡ y)
  both_there c d y at b same = ((λ t. ap (λ x. Some x) (same.0 t) ∙ at), (λ e. same.1 (some_same (clause_at f c) d (e ∙ sym at))))

  pub one_there : (c : TreeClause) (y : Option TreeClause) → None ≡ y → IsTrue false ↔ (Some c ≡ y)
  one_there c y at = ((λ t. absurd (cc)), (λ e. absurd (cc)))

  pub input_there : (c : Ids) (x : Option Ids) (y : Option TreeClause) → Some c ≡ x → (b : Bool) → IsTrue b ↔ (Some (clause_at f c) ≡ y) → IsTrue b ↔ (option_map (clause_at f) x ≡ y)
  input_there c x y at b same = subst (λ (o : Option Ids). IsTrue b ↔ (option_map (clause_at f) o ≡ y)) at same

  pub no_input_there : (x : Option Ids) (y : Option TreeClause) → None ≡ x → (b : Bool) → IsTrue b ↔ (None ≡ y) → IsTrue b ↔ (option_map (clause_at f) x ≡ y)
  no_input_there x y at b same = subst (λ (o : Option Ids). IsTrue b ↔ (option_map (clause_at f) o ≡ y)) at same

pub whole_ids : (f : Forest) (cs : List Ids) → All (IsWholeClause f) cs → All (IsClauseOf f) cs
whole_ids f cs h = in_all (IsClauseOf f) cs (λ c i. let k : IsWholeClause f c = all_in (IsWholeClause f) cs h c i in k.ids)

module _ (f : Forest) (cs : List Ids) (ds : List TreeClause) where
  abbrev pub SameAt : ℕ → Type 0
  SameAt k = option_map (clause_at f) (slice_get cs k) ≡ slice_get ds k

  mapped : (k : ℕ) → SameAt k → slice_get (map (clause_at f) cs) k ≡ slice_get ds k
  mapped k e = slice_get-map (clause_at f) cs k ∙ e

  pub first_at : (i : ℕ) → ((k : ℕ) → k < i → SameAt k) → ¬ SameAt i → IsFirstWrong (λ n. at_number (map (clause_at f) cs) n ≡ at_number ds n) (i + 1)
  first_at i before differ =
      first_difference (map (clause_at f) cs) ds i (λ k l. mapped k (before k l)) (λ e. differ (sym (slice_get-map (clause_at f) cs i) ∙ e))

  pub none_differs : (n : ℕ) → length cs ≤ n → length ds ≤ n → ((k : ℕ) → k < n → SameAt k) → (m : ℕ) → at_number (map (clause_at f) cs) m ≡ at_number ds m
  none_differs n a b before = no_difference (map (clause_at f) cs) ds n (let l = length-map cs (clause_at f) in omega arith) b (λ k l. mapped k (before k l))

-- the first difference of the lists is that of the certificate and the problem
pub difference_of : (p : Problem) (b : format.Base) (r : Option ℕ) → IsFirstWrongOf (λ n. at_number b.inputs n ≡ at_number p.clauses n) r → IsDifference (Some p) b r
difference_of p b None h = lists_equal b.inputs p.clauses h
difference_of p b (Some n) h = h
