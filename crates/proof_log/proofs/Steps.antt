-- Steps by their numbers, and what a derivation whose steps are all shown refutes.
use Rattle.std.proofs.Common.{◌≡◌, ℕ, suc, zero, ◌+◌, ◌-◌, ◌<◌, ◌≤◌, ◌⊎◌, inl, inr, List, [], length, take, map, Some, get_or, sym, ap, ◌∙◌, subst, arith, ◌↔◌}
use Rattle.std.specs.Prelude.{All, Contains, slice_get, ◌==◌}
use Rattle.std.proofs.lemmas.Bool.{cases_eq}
use Rattle.std.proofs.lemmas.Bool.Decides.{Decides-eqb}
use Rattle.std.proofs.lemmas.List.Elements.{All-nil}
use Rattle.std.proofs.lemmas.Option.{slice_get-get_or, slice_get_within, same_Some}
use Rattle.inst_logic.specs.declared.signed.Signed.{Signed}
use Rattle.inst_logic.specs.Truth.{IsRefuted}
use Rattle.inst_logic.specs.Derivations.{at_number}
use Rattle.inst_logic.proofs.ShownLaws.{at_number_contains, names_by_hint, shown_refuted}
use Rattle.prop_logic.specs.declared.literal.Hint.{Hint}
use Rattle.prop_logic.specs.declared.literal.Hint.TheVariants.{Added, Step as Earlier}
use Rattle.prop_logic.specs.declared.literal.Step.{Step}
use Rattle.prop_logic.specs.Literal.{cited, all_cited, IsShownStep, IsShownDerivation}
use Rattle.prop_logic.specs.Solving.{EndsWith}
use Rattle.proof_log.specs.Shown.{IsShownNumber, IsFirstNotShown}
use Rattle.inst_logic.proofs.Items.{at_number_in}
use Rattle.prop_logic.proofs.SearchLaws.{none_inside}

-- an answer for the step at a number is one for the number
pub number_is_shown : (given : List (List (Signed ℕ))) (steps : List Step) (n : ℕ) (s : Step) (P : Type 0) → 0 < n → n ≤ length steps → s ≡ get_or steps (n - 1) s → P ↔ IsShownStep given (take (n - 1) steps) s → P ↔ IsShownNumber given steps n
number_is_shown given steps n s P h k e iff =
    let at : at_number steps n ≡ Some s = at_number_in steps n s h k ∙ ap Some (sym e) in (
      λ p. (s, at, iff.0 p),
      λ m. iff.1 (subst (λ x. IsShownStep given (take (n - 1) steps) x) (same_Some m.0 s (sym m.1 ∙ at)) m.2),
    )

-- the steps before place i are shown
abbrev pub AreShownBelow : List (List (Signed ℕ)) → List Step → ℕ → Type 0
AreShownBelow given steps i = (k : ℕ) → k < i → (s : Step) → slice_get steps k ≡ Some s → IsShownStep given (take k steps) s

pub shown_more : (given : List (List (Signed ℕ))) (steps : List Step) (i : ℕ) (x : Step) → i < length steps → x ≡ get_or steps i x → IsShownStep given (take i steps) x → AreShownBelow given steps i → AreShownBelow given steps (i + 1)
shown_more given steps i x h at shown below = λ k j s e.
    elim (cases_eq k i) [
      | inl same ↦
          let here : s ≡ x = same_Some s x (sym e ∙ ap (slice_get steps) same ∙ slice_get-get_or steps i x h ∙ ap Some (sym at)) in
          subst (λ n. IsShownStep given (take n steps) s) (sym same) (subst (λ y. IsShownStep given (take i steps) y) (sym here) shown)
      | inr other ↦ below k (omega (arith, other)) s e
    ]

pub all_shown : (given : List (List (Signed ℕ))) (steps : List Step) (i : ℕ) → length steps ≤ i → AreShownBelow given steps i → IsShownDerivation given steps
all_shown given steps i h below = λ k s e. let j : k < length steps = slice_get_within steps k s e in below k (omega arith) s e

-- a number of a step has its place
number_at : {X : Type 0} (xs : List X) (n : ℕ) (x : X) → at_number xs n ≡ Some x → (0 < n) × (n ≤ length xs) × (slice_get xs (n - 1) ≡ Some x)
number_at xs zero x e = absurd cc
number_at xs (suc n) x e =
    let within : n < length xs = slice_get_within xs n x e in
    let place : n ≡ suc n - 1 = omega arith in
    (omega arith, omega arith, subst (λ k. slice_get xs k ≡ Some x) place e)

pub first_not_shown : (given : List (List (Signed ℕ))) (steps : List Step) (i : ℕ) (x : Step) → i < length steps → x ≡ get_or steps i x → ¬ IsShownStep given (take i steps) x → AreShownBelow given steps i → IsFirstNotShown given steps (i + 1)
first_not_shown given steps i x h at not_shown below =
    let place : i ≡ i + 1 - 1 = omega arith in (
      x,
      at_number_in steps (i + 1) x (omega arith) (omega arith) ∙ ap Some (ap (λ k. get_or steps k x) (sym place) ∙ sym at),
      subst (λ k. ¬ IsShownStep given (take k steps) x) place not_shown,
      λ k above low. (
        get_or steps (k - 1) x,
        at_number_in steps k x above (omega arith),
        below (k - 1) (omega arith) (get_or steps (k - 1) x) (slice_get-get_or steps (k - 1) x (omega arith)),
      ),
    )

-- a step that is not shown stands in no derivation that is
pub not_all_shown : (given : List (List (Signed ℕ))) (steps : List Step) (n : ℕ) → IsFirstNotShown given steps n → IsShownDerivation given steps → ⊥
not_all_shown given steps n first shown = first.2 (shown (n - 1) first.0 (number_at steps n first.0 first.1).2)

-- a step that is not shown is not among the shown ones
not_shown_number : (given : List (List (Signed ℕ))) (steps : List Step) (n : ℕ) → IsFirstNotShown given steps n → IsShownNumber given steps n → ⊥
not_shown_number given steps n first shown = first.2 (subst (λ x. IsShownStep given (take (n - 1) steps) x) (same_Some shown.0 first.0 (sym shown.1 ∙ first.1)) shown.2)

-- there is one first step that is not shown
pub one_first : (given : List (List (Signed ℕ))) (steps : List Step) (m n : ℕ) → IsFirstNotShown given steps m → IsFirstNotShown given steps n → m ≡ n
one_first given steps m n a b =
    let m_above = (number_at steps m a.0 a.1).0 in
    let n_above = (number_at steps n b.0 b.1).0 in
    let not_less : ¬ (m < n) = λ h. not_shown_number given steps m a (b.3 m m_above h) in
    let not_more : ¬ (n < m) = λ h. not_shown_number given steps n b (a.3 n n_above h) in
    elim (cases_eq m n) [ inl e ↦ e | inr e ↦ absurd (order m n e not_less not_more) ]
  where
    order : (j k : ℕ) → (j ≡ k → ⊥) → ¬ (j < k) → ¬ (k < j) → ⊥
    order j k e f g = omega (arith, e, f, g)

-- the empty clause has no literal outside the empty list
pub all_inside : (c : List (Signed ℕ)) → c ≡ [] → All (Contains []) c × All (Contains c) []
all_inside c e = (subst (λ x. All (Contains []) x) (sym e) (All-nil (Contains [])), All-nil (Contains c))

-- the law of derivations: where all steps are shown and the last one is empty, the given clauses are refuted
pub derivation_refutes : (given : List (List (Signed ℕ))) (steps : List Step) → IsShownDerivation given steps → EndsWith steps [] → IsRefuted given
derivation_refutes given steps shown last =
    shown_refuted (λ x y. x == y) Decides-eqb given (λ s. s.clause) (all_cited given) steps
    (names_by_hint given (λ s. s.clause) (cited given) (λ s. s.hints) cites) shown (length steps - 1) last.0 last.1 (none_inside last.0.clause last.2)
  where
    cites : (earlier : List Step) (h : Hint) (c : List (Signed ℕ)) → cited given earlier h ≡ Some c → Contains given c ⊎ Contains (map (λ s. s.clause) earlier) c
    cites earlier (Added n) c e = inl (at_number_contains given n c e)
    cites earlier (Earlier n) c e = inr (at_number_contains (map (λ s. s.clause) earlier) n c e)
