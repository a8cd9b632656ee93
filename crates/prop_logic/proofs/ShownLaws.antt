-- A step of a shown derivation is true wherever the given clauses are.
use Rattle.std.proofs.Common.{◌≡◌, ℕ, ◌⊎◌, List, take, map, Some}
use Rattle.std.specs.Prelude.{All, Contains, slice_get}
use Rattle.std.proofs.lemmas.List.Elements.{All-contains, All-map, All-weaker, All-contains_itself}
use Rattle.inst_logic.specs.declared.signed.Signed.{Signed}
use Rattle.inst_logic.specs.Truth.{IsTrueClause}
use Rattle.inst_logic.proofs.ShownLaws.{NameTrueClauses, at_number_contains, steps_true}
use Rattle.prop_logic.specs.declared.literal.Hint.{Hint}
use Rattle.prop_logic.specs.declared.literal.Hint.TheVariants.{Added, Step as Earlier}
use Rattle.prop_logic.specs.declared.literal.Step.{Step}
use Rattle.prop_logic.specs.Literal.{cited, all_cited, IsShownDerivation}

-- atoms are true or not
abbrev pub IsTwoValued : (ℕ → Type 0) → Type 0
IsTwoValued holds = (a : ℕ) → holds a ⊎ ¬ holds a

cited_true : (holds : ℕ → Type 0) (given : List (List (Signed ℕ))) (earlier : List Step) → All (IsTrueClause holds) given → All (λ s. IsTrueClause holds s.clause) earlier → (h : Hint) (c : List (Signed ℕ)) → cited given earlier h ≡ Some c → IsTrueClause holds c
cited_true holds given earlier t u (Added n) c e = All-contains (IsTrueClause holds) given c t (at_number_contains given n c e)
cited_true holds given earlier t u (Earlier n) c e = All-contains (IsTrueClause holds) (map (λ s. s.clause) earlier) c (All-map (IsTrueClause holds) (λ s. s.clause) earlier u) (at_number_contains (map (λ s. s.clause) earlier) n c e)

all_true : (holds : ℕ → Type 0) (given : List (List (Signed ℕ))) (earlier : List Step) (s : Step) → All (IsTrueClause holds) given → All (λ x. IsTrueClause holds x.clause) earlier → NameTrueClauses holds (all_cited given earlier s)
all_true holds given earlier s t u =
    let P : Hint → Type 0 = λ h. (c : List (Signed ℕ)) → cited given earlier h ≡ Some c → IsTrueClause holds c in
    All-map (λ o. (c : List (Signed ℕ)) → o ≡ Some c → IsTrueClause holds c) (cited given earlier) s.hints (All-weaker (Contains s.hints) P (λ h _. cited_true holds given earlier t u h) s.hints (All-contains_itself s.hints))

pub derivation_true : (holds : ℕ → Type 0) → IsTwoValued holds → (given : List (List (Signed ℕ))) (steps : List Step) → All (IsTrueClause holds) given → IsShownDerivation given steps
    → (k : ℕ) (s : Step) → slice_get steps k ≡ Some s → IsTrueClause holds s.clause
derivation_true holds two given steps t shown = steps_true holds two (λ s. s.clause) (all_cited given) steps (λ k s e u. all_true holds given (take k steps) s t u) shown
