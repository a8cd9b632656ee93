-- Derivations that grow by a step, parts of lists, cores, and what a refutation says. Crates above cite these laws.
use Rattle.std.proofs.Common.{◌≡◌, ◌≢◌, ℕ, suc, zero, ◌+◌, ◌-◌, ◌<◌, Bool, true, false, ◌⊎◌, inl, inr, List, [], ◌∷◌, ◌++◌, length, map, take, drop, get_or, Option, Some, None, refl, sym, ap, ◌∙◌, subst, arith}
use Rattle.std.specs.Prelude.{All, Contains, slice_get}
use Rattle.std.proofs.lemmas.List.{length_push, map-append, length-map, drop-append-le, take_more}
use Rattle.std.proofs.lemmas.List.Elements.{All-nil, All-cons, All-contains, All-contains_itself, All-weaker, All-push, All-map, Contains-push, Contains-append_left}
use Rattle.std.proofs.lemmas.Option.{same_Some, slice_get_within, none-some}
use Rattle.std.proofs.lemmas.Bool.{false≢true}
use Rattle.inst_logic.specs.declared.signed.Signed.{Signed}
use Rattle.inst_logic.specs.Signed.{complement}
use Rattle.inst_logic.specs.Truth.{IsTrueLiteral}
use Rattle.inst_logic.specs.Derivations.{at_number}
use Rattle.prop_logic.specs.declared.literal.Hint.{Hint}
use Rattle.prop_logic.specs.declared.literal.Hint.TheVariants.{Added, Step as Earlier}
use Rattle.prop_logic.specs.declared.literal.Step.{Step}
use Rattle.prop_logic.specs.Literal.{cited, IsShownStep, IsShownDerivation, AtomsBelow}
use Rattle.prop_logic.specs.Solving.{IsSubList, EndsWith, MakesTrue, Refutes}
use Rattle.prop_logic.specs.Valuation.{IsHeld}
use Rattle.prop_logic.specs.Search.{AreGood, IsCore}
use Rattle.prop_logic.proofs.ListLaws.{slice_get_append, slice_get_push, slice_get_last, take_of_append, take_whole, Contains-slice_get, slice_get-Contains}
use Rattle.inst_logic.proofs.ShownLaws.{not_both_true}
use Rattle.prop_logic.proofs.ShownLaws.{IsTwoValued, derivation_true}
use Rattle.inst_logic.proofs.Items.{at_number_append}
pub use Rattle.inst_logic.proofs.Items.{contains_map}
pub use Rattle.inst_logic.proofs.Booleans.{not_not}

pub complement_twice : (l : Signed ℕ) → complement (complement l) ≡ l
complement_twice l = ap (λ p. record { positive = p; atom = l.atom }) (not_not l.positive)

-- derivations with one more step
pub shown_push : (clauses : List (List (Signed ℕ))) (steps : List Step) (s : Step) → IsShownDerivation clauses steps → IsShownStep clauses steps s → IsShownDerivation clauses (steps ++ s ∷ [])
shown_push clauses steps s shown new = λ k x e.
    elim (slice_get_push steps s k x e) [
      | inl old ↦ subst (λ l. IsShownStep clauses l x) (sym (take_of_append steps (s ∷ []) k (omega (arith, old.1)))) (shown k x old.0)
      | inr last ↦
          let here : take k (steps ++ s ∷ []) ≡ steps = take_of_append steps (s ∷ []) k (omega (arith, last.0)) ∙ ap (λ n. take n steps) last.0 ∙ take_whole steps in
          subst (λ l. IsShownStep clauses l x) (sym here) (subst (λ y. IsShownStep clauses steps y) last.1 new)
    ]

pub good_push : (clauses : List (List (Signed ℕ))) (n : ℕ) (steps : List Step) (s : Step) → AreGood clauses n steps → IsShownStep clauses steps s → (s.hints ≡ [] → ⊥) → AtomsBelow n s.clause → AreGood clauses n (steps ++ s ∷ [])
good_push clauses n steps s g shown hinted below = record {
  shown = shown_push clauses steps s g.shown shown;
  hinted = All-push (λ x. x.hints ≢ []) steps s g.hinted hinted;
  below = All-push (λ x. AtomsBelow n x.clause) steps s g.below below;
}

pub good_none : (clauses : List (List (Signed ℕ))) (n : ℕ) → AreGood clauses n []
good_none clauses n = record { shown = λ k s e. absurd cc; hinted = All-nil (λ s. s.hints ≢ []); below = All-nil (λ s. AtomsBelow n s.clause) }

-- the number of the step that was added last cites its clause
pub last_cited : (clauses : List (List (Signed ℕ))) (steps : List Step) (s : Step) → cited clauses (steps ++ s ∷ []) (Earlier (length (steps ++ s ∷ []))) ≡ Some s.clause
last_cited clauses steps s =
    let count : length (steps ++ s ∷ []) ≡ suc (length steps) = length_push steps s ∙ (omega arith) in
    let all : map (λ x. x.clause) (steps ++ s ∷ []) ≡ map (λ x. x.clause) steps ++ s.clause ∷ [] = map-append (λ x. x.clause) steps (s ∷ []) in
    let same : length steps ≡ length (map (λ x. x.clause) steps) = sym (length-map steps (λ x. x.clause)) in
    ap (λ n. at_number (map (λ x. x.clause) (steps ++ s ∷ [])) n) count ∙ ap (λ l. slice_get l (length steps)) all
    ∙ ap (slice_get (map (λ x. x.clause) steps ++ s.clause ∷ [])) same ∙ slice_get_last (map (λ x. x.clause) steps) s.clause

-- what a hint cites stays as steps are added
pub cited_later : (clauses : List (List (Signed ℕ))) (steps more : List Step) (h : Hint) (c : List (Signed ℕ)) → cited clauses steps h ≡ Some c → cited clauses (steps ++ more) h ≡ Some c
cited_later clauses steps more (Added n) c e = e
cited_later clauses steps more (Earlier n) c e =
    ap (λ l. at_number l n) (map-append (λ s. s.clause) steps more) ∙ at_number_append (map (λ s. s.clause) steps) (map (λ s. s.clause) more) n c e

-- parts of a list
slice_get_drop : {Y : Type 0} (ys : List Y) (m k : ℕ) → slice_get (drop m ys) k ≡ slice_get ys (m + k)
slice_get_drop ys zero k = ap (slice_get ys) (omega arith)
slice_get_drop [] (suc m) k = refl
slice_get_drop (y ∷ ys) (suc m) k = slice_get_drop ys m k ∙ ap (slice_get (y ∷ ys)) (let e : suc (m + k) ≡ suc m + k = omega arith in e)

contains_drop : {X : Type 0} (xs : List X) (n : ℕ) (x : X) → Contains (drop n xs) x → Contains xs x
contains_drop xs n x c =
    let at = slice_get-Contains (drop n xs) x c in
    Contains-slice_get xs (n + at.0) x (sym (slice_get_drop xs n at.0) ∙ at.1)

pub sub_contains : {X : Type 0} (xs ys : List X) → IsSubList xs ys → All (Contains ys) xs
sub_contains [] ys s = All-nil (Contains ys)
sub_contains (x ∷ xs) ys s =
    All-cons (Contains ys) x xs (Contains-slice_get ys s.0 x s.1)
    (All-weaker (Contains (drop (s.0 + 1) ys)) (Contains ys) (λ z c. contains_drop ys (s.0 + 1) z c) xs (sub_contains xs (drop (s.0 + 1) ys) s.2))

pub sub_more : {X : Type 0} (xs ys zs : List X) → IsSubList xs ys → IsSubList xs (ys ++ zs)
sub_more [] ys zs s = tt
sub_more (x ∷ xs) ys zs s =
    let h = slice_get_within ys s.0 x s.1 in (
      s.0,
      slice_get_append ys zs s.0 x s.1,
      subst (IsSubList xs) (sym (drop-append-le (s.0 + 1) ys zs (omega arith))) (sub_more xs (drop (s.0 + 1) ys) zs s.2),
    )

pub sub_push : {X : Type 0} (xs ys : List X) (z : X) → IsSubList xs ys → IsSubList (xs ++ z ∷ []) (ys ++ z ∷ [])
sub_push [] ys z s = (length ys, slice_get_last ys z, tt)
sub_push (x ∷ xs) ys z s =
    let h = slice_get_within ys s.0 x s.1 in (
      s.0,
      slice_get_append ys (z ∷ []) s.0 x s.1,
      subst (IsSubList (xs ++ z ∷ [])) (sym (drop-append-le (s.0 + 1) ys (z ∷ []) (omega arith))) (sub_push xs (drop (s.0 + 1) ys) z s.2),
    )

-- without assumptions no core has a literal
pub no_core : (core : List (Signed ℕ)) → IsSubList core [] → core ≡ []
no_core [] h = refl
no_core (l ∷ core) h = absurd (let e = h.1 in cc)

-- a clause with no literal outside the empty list is empty
pub none_inside : (c : List (Signed ℕ)) → All (Contains []) c → c ≡ []
none_inside [] a = refl
none_inside (l ∷ ls) a = absurd (omega (arith, (a 0 l (omega arith)).1))

pub ends_with_push : (steps : List Step) (s : Step) → EndsWith (steps ++ s ∷ []) s.clause
ends_with_push steps s =
    let count : length (steps ++ s ∷ []) - 1 ≡ length steps = omega (arith, length_push steps s) in
    (s, ap (slice_get (steps ++ s ∷ [])) count ∙ slice_get_last steps s, All-contains_itself s.clause, All-contains_itself s.clause)

-- the assumptions whose complements are in the clause, of the first ones
pub record IsCoreOf (clause : List (Signed ℕ)) (assumptions core : List (Signed ℕ)) : Type 0 where
  pub within : IsSubList core assumptions
  pub whole : All (λ l. Contains clause (complement l) → Contains core l) assumptions

pub core_more : (clause : List (Signed ℕ)) (assumptions core more : List (Signed ℕ)) (i : ℕ) (d : Signed ℕ) → i < length assumptions → more ≡ core ++ get_or assumptions i d ∷ [] → IsCoreOf clause (take i assumptions) core → IsCoreOf clause (take (i + 1) assumptions) more
core_more clause assumptions core more i d h grown c =
    let x = get_or assumptions i d in
    subst (λ xs. IsCoreOf clause xs more) (sym (take_more assumptions i d h))
    (subst (IsCoreOf clause (take i assumptions ++ x ∷ [])) (sym grown)
    (record {
      within = sub_push core (take i assumptions) x c.within;
      whole = All-push (λ l. Contains clause (complement l) → Contains (core ++ x ∷ []) l) (take i assumptions) x
          (All-weaker (λ l. Contains clause (complement l) → Contains core l) (λ l. Contains clause (complement l) → Contains (core ++ x ∷ []) l) (λ l f m. Contains-append_left core (x ∷ []) l (f m)) (take i assumptions) c.whole)
          (λ m. Contains-push core x);
    }))

pub core_same : (clause : List (Signed ℕ)) (assumptions core : List (Signed ℕ)) (i : ℕ) (d : Signed ℕ) → i < length assumptions → (Contains clause (complement (get_or assumptions i d)) → ⊥) → IsCoreOf clause (take i assumptions) core → IsCoreOf clause (take (i + 1) assumptions) core
core_same clause assumptions core i d h free c =
    let x = get_or assumptions i d in
    subst (λ xs. IsCoreOf clause xs core) (sym (take_more assumptions i d h))
    (record {
      within = sub_more core (take i assumptions) (x ∷ []) c.within;
      whole = All-push (λ l. Contains clause (complement l) → Contains core l) (take i assumptions) x c.whole (λ m. absurd (free m));
    })

-- marks that were lent out as a slice
pub lent_whole : (marks new : List Bool) (n : ℕ) → n ≡ length marks → length new ≡ length marks → take n (new ++ drop (length new) marks) ≡ new
lent_whole marks new n count same =
    take_of_append new (drop (length new) marks) n (omega arith) ∙ ap (λ k. take k new) (count ∙ sym same) ∙ take_whole new

-- the assumptions can't be true with the clauses
held_or_not : (valuation : List Bool) → IsTwoValued (IsHeld valuation)
held_or_not valuation atom = by_value (slice_get valuation atom) refl
  where
    by_value : (o : Option Bool) → slice_get valuation atom ≡ o → IsHeld valuation atom ⊎ ¬ IsHeld valuation atom
    by_value None e = inr (λ h. none-some true (sym e ∙ h))
    by_value (Some true) e = inl e
    by_value (Some false) e = inr (λ h. false≢true (same_Some false true (sym e ∙ h)))

of_core : (core : List (Signed ℕ)) (m : Signed ℕ) → Contains (map complement core) m → Contains core (complement m)
of_core core m c =
    All-contains (λ x. Contains core (complement x)) (map complement core) m
    (All-map (λ x. Contains core (complement x)) complement core
    (All-weaker (Contains core) (λ l. Contains core (complement (complement l))) (λ l h. subst (Contains core) (sym (complement_twice l)) h) core (All-contains_itself core))) c

pub none_true : (clauses : List (List (Signed ℕ))) (assumptions core : List (Signed ℕ)) (steps : List Step) → IsShownDerivation clauses steps → IsSubList core assumptions → EndsWith steps (map complement core) → (valuation : List Bool) → ¬ MakesTrue valuation clauses assumptions
none_true clauses assumptions core steps shown within last valuation t =
    let held = IsHeld valuation in
    let one = derivation_true held (held_or_not valuation) clauses steps t.clauses_true shown (length steps - 1) last.0 last.1 in
    let in_last : Contains last.0.clause one.1 = (one.0, one.2, one.3) in
    let at : Contains (map complement core) one.1 = All-contains (Contains (map complement core)) last.0.clause one.1 last.2 in_last in
    let assumed : Contains assumptions (complement one.1) = All-contains (Contains assumptions) core (complement one.1) (sub_contains core assumptions within) (of_core core one.1 at) in
    not_both_true held (held_or_not valuation) one.1 one.4 (All-contains (IsTrueLiteral held) assumptions (complement one.1) t.assumptions_true assumed)

pub core_refutes : (n : ℕ) (clauses : List (List (Signed ℕ))) (assumptions core : List (Signed ℕ)) (steps : List Step) → IsCore clauses assumptions core n steps → Refutes n clauses assumptions core steps
core_refutes n clauses assumptions core steps c = record {
  none = none_true clauses assumptions core steps c.good.shown c.within c.last;
  within = c.within;
  shown = c.good.shown;
  last = c.last;
  hinted = λ _. c.good.hinted;
  atoms_below = c.good.below;
}

-- two assumptions that clash
pub clash_refutes : (n : ℕ) (clauses : List (List (Signed ℕ))) (assumptions core : List (Signed ℕ)) (l : Signed ℕ) → AtomsBelow n assumptions → IsSubList core assumptions → Contains core l → Contains core (complement l) → Refutes n clauses assumptions core ((record { clause = map complement core; hints = [] }) ∷ [])
clash_refutes n clauses assumptions core l low within here there =
    let s : Step = record { clause = map complement core; hints = [] } in
    let first : Contains (map complement core) (complement l) = contains_map complement core l here in
    let second : Contains (map complement core) (complement (complement l)) = contains_map complement core (complement l) there in
    let shown : IsShownDerivation clauses (s ∷ []) = shown_push clauses [] s (good_none clauses n).shown (complement l, first, second) in
    let last : EndsWith (s ∷ []) (map complement core) = (s, refl, All-contains_itself s.clause, All-contains_itself s.clause) in
    let below : AtomsBelow n (map complement core) = All-map (λ x. x.atom < n) complement core (All-weaker (Contains assumptions) (λ x. x.atom < n) (λ x c. All-contains (λ y. y.atom < n) assumptions x low c) core (sub_contains core assumptions within)) in
    record {
      none = none_true clauses assumptions core (s ∷ []) shown within last;
      within = within;
      shown = shown;
      last = last;
      hinted = λ free. absurd (free (l, here, there));
      atoms_below = All-cons (λ x. AtomsBelow n x.clause) s [] below (All-nil (λ x. AtomsBelow n x.clause));
    }
