-- A step over ids is right exactly where its trees are.
use Rattle.std.proofs.Common.{◌≡◌, ◌≢◌, ℕ, zero, suc, ◌-◌, ◌<◌, List, [], ◌∷◌, refl, ap, ap₂, sym, ◌∙◌, map, take, subst, arith, length, Option, None, Some}
use Rattle.std.specs.Prelude.{All, slice_get, option_map, ◌↔◌}
use Rattle.std.proofs.lemmas.Option.{slice_get-map}
use Rattle.inst_logic.specs.Tree.{Tree}
use Rattle.inst_logic.specs.declared.signed.Signed.{Signed}
use Rattle.inst_logic.specs.Derivations.{at_number, IsShown}
use Rattle.inst_logic.proofs.ShownLaws.{HasAtoms, NameAtoms, hint_renamed, shown_renamed, at_number_contains}
use Rattle.inst_calculus.specs.Steps.{Step as TreeStep, cited_clause}
use Rattle.inst_calculus.proofs.Membership.{◌∈◌, all_in, in_all, from_map, contains_in}
use Rattle.term_bank.specs.Forest.{Forest, AreDistinct, clause_at, tree_at}
use Rattle.term_bank.proofs.Growth.{none_left}
use Rattle.prop_logic.specs.Literal.{cited, AllAtomsBelow, AtomsBelow, StepsBelow, IsShownStep}
use Rattle.prop_logic.specs.declared.literal.Step.{Step}
use Rattle.cert_values.specs.declared.certificate.GroundHint.{GroundHint}
use Rattle.cert_values.specs.declared.certificate.GroundHint.TheVariants.{Ground, Step as Before}
use Rattle.cert_values.specs.declared.certificate.GroundStep.{GroundStep}
use Rattle.cert_format.specs.Certificate.{line_clauses}
use Rattle.cert_values.specs.declared.certificate.GroundLine.{GroundLine}
use Rattle.cert_values.specs.Values.{step_of, hint_of, line_of}
use Rattle.cert_values.specs.Wholes.{IsWholeClause, IsWholeLine}
use Rattle.cert_format.specs.Validity.{IsRightStep}
use Rattle.cert_check.specs.Numbered.{IsRightNumber, numbered_hint, numbered_step}
use Rattle.cert_check.specs.Stages.{IsRightStepNumber}
use Rattle.std.proofs.lemmas.Option.{same_Some}
use Rattle.inst_logic.proofs.Membership.{in_take}
use Rattle.cert_check.proofs.OriginLemmas.{number_map}

-- the clauses of the first k steps
earlier_clauses : (f : Forest) (ss : List GroundStep) (k : ℕ) → map (λ (s : TreeStep Tree). s.clause) (take k (map (step_of f) ss)) ≡ map (clause_at f) (map (λ (s : Step). s.clause) (take k (map numbered_step ss)))
earlier_clauses f [] zero = refl
earlier_clauses f [] (suc k) = refl
earlier_clauses f (s ∷ ss) zero = refl
earlier_clauses f (s ∷ ss) (suc k) = ap (λ (xs : List (List (Signed Tree))). clause_at f s.clause ∷ xs) (earlier_clauses f ss k)

-- what a hint names
hint_same : (f : Forest) (gs : List (List (Signed ℕ))) (ss : List GroundStep) (k : ℕ) (h : GroundHint)
    → cited_clause (map (clause_at f) gs) (take k (map (step_of f) ss)) (hint_of h) ≡ hint_renamed (tree_at f) (cited gs (take k (map numbered_step ss)) (numbered_hint h))
hint_same f gs ss k (Ground n) = number_map f gs n
hint_same f gs ss k (Before n) =
    ap (λ (cs : List (List (Signed Tree))). at_number cs n) (earlier_clauses f ss k) ∙ number_map f (map (λ (s : Step). s.clause) (take k (map numbered_step ss))) n

hints_same : (f : Forest) (gs : List (List (Signed ℕ))) (ss : List GroundStep) (k : ℕ) (hs : List GroundHint)
    → map (cited_clause (map (clause_at f) gs) (take k (map (step_of f) ss))) (map hint_of hs) ≡ map (hint_renamed (tree_at f)) (map (cited gs (take k (map numbered_step ss))) (map numbered_hint hs))
hints_same f gs ss k [] = refl
hints_same f gs ss k (h ∷ hs) = ap₂ (λ x xs. x ∷ xs) (hint_same f gs ss k h) (hints_same f gs ss k hs)

pub given_below : (f : Forest) (gs : List (List (Signed ℕ))) → All (IsWholeClause f) gs → AllAtomsBelow (length f.trees) gs
given_below f gs h = in_all (AtomsBelow (length f.trees)) gs (λ c i. let k : IsWholeClause f c = all_in (IsWholeClause f) gs h c i in k.ids)

pub lines_below : (f : Forest) (gs : List GroundLine) → All (IsWholeLine f) gs → AllAtomsBelow (length f.trees) (map (λ g. g.clause) gs)
lines_below f gs h = in_all (AtomsBelow (length f.trees)) (map (λ (g : GroundLine). g.clause) gs) (λ c i.
    let (g, j, same) = from_map (λ (g : GroundLine). g.clause) c gs i in
    let k : IsWholeLine f g = all_in (IsWholeLine f) gs h g j in
    subst (λ d. AtomsBelow (length f.trees) d) same k.clause.ids)

-- the clauses of lines of ids and those of lines of trees
pub line_trees : (f : Forest) (gs : List GroundLine) → map (clause_at f) (map (λ g. g.clause) gs) ≡ line_clauses (map (line_of f) gs)
line_trees f [] = refl
line_trees f (g ∷ gs) = ap (λ (xs : List (List (Signed Tree))). clause_at f g.clause ∷ xs) (line_trees f gs)

pub steps_below : (f : Forest) (ss : List GroundStep) → All (λ s. IsWholeClause f s.clause) ss → StepsBelow (length f.trees) (map numbered_step ss)
steps_below f ss h = in_all (λ (s : Step). AtomsBelow (length f.trees) s.clause) (map numbered_step ss) (λ s i.
    let (g, j, same) = from_map numbered_step s ss i in
    let k : IsWholeClause f g.clause = all_in (λ (x : GroundStep). IsWholeClause f x.clause) ss h g j in
    subst (λ (x : Step). AtomsBelow (length f.trees) x.clause) same k.ids)

-- what hints name has atoms below n
cited_below : (n : ℕ) (gs : List (List (Signed ℕ))) (before : List Step) → AllAtomsBelow n gs → ((s : Step) → s ∈ before → AtomsBelow n s.clause) → (h : GroundHint) (c : List (Signed ℕ)) → cited gs before (numbered_hint h) ≡ Some c → AtomsBelow n c
cited_below n gs before a b (Ground k) c e = all_in (AtomsBelow n) gs a c (contains_in c gs (at_number_contains gs k c e))
cited_below n gs before a b (Before k) c e =
    let (s, i, same) = from_map (λ (s : Step). s.clause) c before (contains_in c (map (λ (s : Step). s.clause) before) (at_number_contains (map (λ (s : Step). s.clause) before) k c e)) in
    subst (AtomsBelow n) same (b s i)

all_cited_below : (n : ℕ) (gs : List (List (Signed ℕ))) (before : List Step) → AllAtomsBelow n gs → ((s : Step) → s ∈ before → AtomsBelow n s.clause) → (hs : List GroundHint)
    → NameAtoms (λ a. a < n) (map (cited gs before) (map numbered_hint hs))
all_cited_below n gs before a b hs = in_all (λ o. (c : List (Signed ℕ)) → o ≡ Some c → HasAtoms (λ a. a < n) c) (map (cited gs before) (map numbered_hint hs)) (λ o i c e.
    let (g, j, same) = from_map (cited gs before) o (map numbered_hint hs) i in
    let (h, k, is) = from_map numbered_hint g hs j in
    cited_below n gs before a b h c (ap (cited gs before) is ∙ same ∙ e))

module _ (f : Forest) (gs : List (List (Signed ℕ))) (ss : List GroundStep) (below_given : AllAtomsBelow (length f.trees) gs) (whole : All (λ s. IsWholeClause f s.clause) ss) (once : AreDistinct f.trees) where
  abbrev given : List (List (Signed Tree))
  given = map (clause_at f) gs

  abbrev steps : List (TreeStep Tree)
  steps = map (step_of f) ss

  abbrev numbered : List Step
  numbered = map numbered_step ss

  -- one step
  shown_same : (k : ℕ) (s : GroundStep) → s ∈ ss
      → IsShownStep gs (take k numbered) (numbered_step s) ↔ IsShown (clause_at f s.clause) (map (cited_clause given (take k (map (step_of f) ss))) (map hint_of s.hints))
  shown_same k s i =
      let here : IsWholeClause f s.clause = all_in (λ (x : GroundStep). IsWholeClause f x.clause) ss whole s i in
      let below = all_cited_below (length f.trees) gs (take k numbered) below_given
      (λ t j. all_in (λ (x : Step). AtomsBelow (length f.trees) x.clause) numbered (steps_below f ss whole) t (in_take t k numbered j)) s.hints in
      let both = shown_renamed (tree_at f) (λ a. a < length f.trees) once s.clause (map (cited gs (take k numbered)) (map numbered_hint s.hints)) here.ids below in
      let same = hints_same f gs ss k s.hints in (
        (λ h. subst (IsShown (clause_at f s.clause)) (sym same) (both.0 h)),
        (λ h. both.1 (subst (IsShown (clause_at f s.clause)) same h)),
      )

  by_place : (k : ℕ) (o : Option GroundStep) → slice_get ss k ≡ o
      → (IsRightNumber gs numbered (suc k) → IsRightStepNumber given steps (suc k)) × (IsRightStepNumber given steps (suc k) → IsRightNumber gs numbered (suc k))
  by_place k None at =
      let low : slice_get numbered k ≡ None = slice_get-map numbered_step ss k ∙ ap (option_map numbered_step) at in
      let high : slice_get (map (step_of f) ss) k ≡ None = slice_get-map (step_of f) ss k ∙ ap (option_map (step_of f)) at in (
        (λ h t e. absurd (cc)),
        (λ h t e. absurd (cc)),
      )
  by_place k (Some s) at =
      let low : slice_get numbered k ≡ Some (numbered_step s) = slice_get-map numbered_step ss k ∙ ap (option_map numbered_step) at in
      let high : slice_get (map (step_of f) ss) k ≡ Some (step_of f s) = slice_get-map (step_of f) ss k ∙ ap (option_map (step_of f)) at in
      let i : s ∈ ss = contains_in s ss (at_number_contains ss (suc k) s at) in
      let less : k ≡ suc k - 1 = omega arith in
      let both = shown_same (suc k - 1) s i in (
        (λ h t e.
            let right = h (numbered_step s) low in
            subst (IsRightStep given steps (suc k)) (same_Some (step_of f s) t (sym high ∙ e)) (record {
              hinted = none_left hint_of s.hints (λ z. right.0 (ap (map numbered_hint) z));
              shown = both.0 right.1;
            })),
        (λ h t e.
            let right : IsRightStep given steps (suc k) (step_of f s) = h (step_of f s) high in
            subst (λ (x : Step). (x.hints ≢ []) × IsShownStep gs (take (suc k - 1) numbered) x) (same_Some (numbered_step s) t (sym low ∙ e))
            (none_left numbered_hint s.hints (λ z. right.hinted (ap (map hint_of) z)), both.1 right.shown)),
      )

  pub right_number : (n : ℕ) → IsRightNumber gs numbered n → IsRightStepNumber given steps n
  right_number zero h = λ t e. absurd (cc)
  right_number (suc k) h = (by_place k (slice_get ss k) refl).0 h

  pub right_tree : (n : ℕ) → IsRightStepNumber given steps n → IsRightNumber gs numbered n
  right_tree zero h = λ t e. absurd (cc)
  right_tree (suc k) h = (by_place k (slice_get ss k) refl).1 h
