-- The places of the steps that a last step needs.
use Rattle.std.proofs.Common.{◌≡◌, ℕ, suc, zero, ◌-◌, ◌<◌, ◌≤◌, Bool, inl, inr, List, [], ◌∷◌, length, Some, sym, ap, ◌∙◌, subst, arith}
use Rattle.std.specs.Prelude.{All, Contains, slice_get}
use Rattle.std.proofs.lemmas.Bool.{cases_eq}
use Rattle.std.proofs.lemmas.List.Elements.{All-cons, All-weaker, Contains-push, Contains-push_cases, Contains-append_left, Contains-append_right, Contains-append_cases}
use Rattle.std.proofs.lemmas.Option.{same_Some, slice_get_within}
use Rattle.prop_logic.specs.declared.literal.Hint.{Hint}
use Rattle.prop_logic.specs.declared.literal.Hint.TheVariants.{Added, Step as Earlier}
use Rattle.prop_logic.specs.declared.literal.Step.{Step}
use Rattle.cdcl_core.specs.Cut.{CitesOnly, Rises, IsMarked, AreNeeded}

cites_weaker : (P Q : ℕ → Type 0) (n : ℕ) (h : Hint) → ((k : ℕ) → P k → Q k) → CitesOnly P n h → CitesOnly Q n h
cites_weaker P Q n (Added k) kept f = tt
cites_weaker P Q n (Earlier zero) kept f = tt
cites_weaker P Q n (Earlier (suc k)) kept f = λ low. kept k (f low)

pub all_cite_weaker : (P Q : ℕ → Type 0) (n : ℕ) (hints : List Hint) → ((k : ℕ) → P k → Q k) → All (CitesOnly P n) hints → All (CitesOnly Q n) hints
all_cite_weaker P Q n hints kept all = All-weaker (CitesOnly P n) (CitesOnly Q n) (λ h f. cites_weaker P Q n h kept f) hints all

-- the marked places from p on are taken, each below those before it, and what their steps cite is marked
pub record IsReached (steps : List Step) (marks : List Bool) (p : ℕ) (taken : List ℕ) : Type 0 where
  pub rising : Rises taken
  pub within : All (λ k. (p ≤ k) × (k < length steps)) taken
  pub last : IsMarked marks (length steps - 1)
  pub marked : (k : ℕ) → p ≤ k → IsMarked marks k → Contains taken k
  pub closed : (k : ℕ) (s : Step) → Contains taken k → slice_get steps k ≡ Some s → All (CitesOnly (IsMarked marks) k) s.hints

nothing_in : {X : Type 0} (k : ℕ) → Contains [] k → X
nothing_in k h = absurd (omega (arith, h.1))

-- the place before i is taken, and what its step cites is marked
pub reached_more : (steps : List Step) (marks now : List Bool) (i p : ℕ) (taken more : List ℕ) (s : Step) → i ≡ suc p → more ≡ p ∷ taken → slice_get steps p ≡ Some s → All (CitesOnly (IsMarked now) p) s.hints
    → ((k : ℕ) → IsMarked marks k → IsMarked now k) → ((k : ℕ) → p ≤ k → IsMarked now k → IsMarked marks k) → IsReached steps marks i taken → IsReached steps now p more
reached_more steps marks now i p taken more s next is at cited kept above a =
    let inside : p < length steps = slice_get_within steps p s at in
    subst (IsReached steps now p) (sym is) record {
      rising = (All-weaker (λ k. (i ≤ k) × (k < length steps)) (λ k. p < k) (λ k h. omega (arith, h.0)) taken a.within, a.rising);
      within = All-cons (λ k. (p ≤ k) × (k < length steps)) p taken (omega arith, inside)
          (All-weaker (λ k. (i ≤ k) × (k < length steps)) (λ k. (p ≤ k) × (k < length steps)) (λ k h. (omega (arith, h.0), h.1)) taken a.within);
      last = kept (length steps - 1) a.last;
      marked = λ k past m. elim (cases_eq p k) [
        | inl same ↦ subst (Contains (p ∷ taken)) same (Contains-append_left (p ∷ []) taken p (Contains-push [] p))
        | inr other ↦ Contains-append_right (p ∷ []) taken k (a.marked k (omega (arith, other)) (above k past m))
      ];
      closed = λ k x c e. elim (Contains-append_cases (p ∷ []) taken k c) [
        | inl here ↦ elim (Contains-push_cases [] p k here) [
          | inl none ↦ nothing_in k none
          | inr same ↦
              let is : s ≡ x = same_Some s x (sym at ∙ ap (slice_get steps) same ∙ e) in
              subst (λ j. All (CitesOnly (IsMarked now) j) x.hints) same (subst (λ (y : Step). All (CitesOnly (IsMarked now) p) y.hints) is cited)
        ]
        | inr there ↦ all_cite_weaker (IsMarked marks) (IsMarked now) k x.hints kept (a.closed k x there e)
      ];
    }

pub reached_all : (steps : List Step) (marks : List Bool) (p : ℕ) (taken places : List ℕ) → p ≡ 0 → places ≡ taken → IsReached steps marks p taken → AreNeeded steps places
reached_all steps marks p taken places whole is a =
    let known : (k : ℕ) → IsMarked marks k → Contains taken k = λ k m. a.marked k (omega arith) m in
    subst (AreNeeded steps) (sym is) record {
      rising = a.rising;
      within = All-weaker (λ k. (p ≤ k) × (k < length steps)) (λ k. k < length steps) (λ k h. h.1) taken a.within;
      last = λ some. known (length steps - 1) a.last;
      closed = λ k s c e. all_cite_weaker (IsMarked marks) (Contains taken) k s.hints known (a.closed k s c e);
    }
