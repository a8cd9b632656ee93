-- How the search ends.
use Rattle.std.proofs.Common.{◌≡◌, ◌≢◌, ℕ, suc, ◌+◌, ◌<◌, ◌≤◌, Bool, true, false, not, cond, ◌⊎◌, inl, inr, List, [], ◌∷◌, ◌++◌, length, map, take, get_or, eqb, eq-eqb, Option, Some, None, refl, sym, ap, ◌∙◌, subst, arith}
use Rattle.std.specs.Prelude.{All, Contains, slice_get, unwrap_or, is_some, MatchBool, nat_lt, ◌==◌, ◌&&◌}
use Rattle.std.specs.Bool.{beq}
use Rattle.std.specs.Ordering.{ord_max, is_lt, nat_cmp}
use Rattle.std.proofs.lemmas.Bool.{ltb-true, ltb-false}
use Rattle.std.specs.declared.cmp.Ordering.TheVariants.{Less, Equal, Greater}
use Rattle.std.proofs.lemmas.List.Elements.{All-nil, All-cons, All-contains, All-weaker, All-push, All-map, All-head, All-tail, All-contains_itself, Contains-push, Contains-append_left}
use Rattle.std.proofs.lemmas.List.{take_more}
use Rattle.std.proofs.lemmas.Option.{same_Some, none-some}
use Rattle.std.proofs.lemmas.Bool.{true≢false, false≢true}
use Rattle.std.proofs.lemmas.Bool.Decides.{nat_tests}
use Rattle.inst_logic.specs.declared.signed.Signed.{Signed}
use Rattle.inst_logic.specs.Signed.{complement, signed}
use Rattle.inst_logic.specs.Truth.{IsTrueLiteral, IsTrueClause}
use Rattle.prop_logic.specs.declared.literal.Step.{Step}
use Rattle.prop_logic.specs.Literal.{AtomsBelow, IsShownDerivation}
use Rattle.prop_logic.specs.Solving.{MakesTrue, IsSubList, EndsWith, Refutes}
use Rattle.prop_logic.specs.Search.{AreGood}
use Rattle.prop_logic.specs.Cut.{IsCutOf}
use Rattle.prop_logic.specs.Valuation.{IsHeld}
use Rattle.prop_logic.proofs.ListLaws.{All-from_contained}
use Rattle.prop_logic.proofs.SearchLaws.{sub_more, sub_push, contains_map, shown_push, good_none, none_true, core_refutes}
use Rattle.cdcl_trail.specs.declared.entry.Entry.{Entry}
use Rattle.cdcl_trail.specs.Trail.{Trail, IsTrail, IsDecision, level_of, value_of, reason_of, literals_of}
use Rattle.cdcl_trail.specs.Propagation.{IsFalseIn, IsStable}
use Rattle.cdcl_trail.proofs.ScanLaws.{true_value, true_has_value}
use Rattle.cdcl_core.specs.Log.{IsFound}
use Rattle.cdcl_core.specs.declared.search.Search.{Search}
use Rattle.cdcl_core.specs.Analysis.{HasDecisionsAnd}
use Rattle.cdcl_core.specs.Phases.{IsSaved}
use Rattle.cdcl_core.specs.Search.{IsKept, IsTrueUpTo, IsInCore, IsCoreIn}
use Rattle.cdcl_core.proofs.EntryLaws.{of_literals, to_literals, reason_found, consistent}

entry_step : (x : Entry) (xs : List Entry) (a : ℕ) (b : Bool) → (x.lit.atom == a) ≡ b → ((level_of xs a ≡ None → ⊥) → (e : Entry) × Contains xs e × (e.lit.atom ≡ a)) → (cond b (Some x.level) (level_of xs a) ≡ None → ⊥) → (e : Entry) × Contains (x ∷ xs) e × (e.lit.atom ≡ a)
entry_step x xs a true s rest n = let same : x.lit.atom ≡ a = grind (arith, nat_tests) in (x, (0, omega arith, refl), same)
entry_step x xs a false s rest n = let f = rest n in (f.0, (suc f.1.0, omega (arith, f.1.1), f.1.2), f.2)

-- an atom with a level has an entry
pub entry_of : (es : List Entry) (a : ℕ) → (level_of es a ≡ None → ⊥) → (e : Entry) × Contains es e × (e.lit.atom ≡ a)
entry_of [] a n = absurd (n refl)
entry_of (x ∷ xs) a n = entry_step x xs a (x.lit.atom == a) refl (λ m. entry_of xs a m) n

made : (l m : Signed ℕ) → l.positive ≡ m.positive → l.atom ≡ m.atom → l ≡ m
made l m p a =
    let first : l ≡ record { positive = m.positive; atom = l.atom } = ap (λ b. record { positive = b; atom = l.atom }) p in
    let second : record { positive = m.positive; atom = l.atom } ≡ m = ap (λ n. record { positive = m.positive; atom = n }) a in
    first ∙ second

same_literal : (l m : Signed ℕ) → l.atom ≡ m.atom → (l ≡ m) ⊎ (l ≡ complement m)
same_literal l m a = by_sign l.positive m.positive refl refl
  where
    by_sign : (p q : Bool) → l.positive ≡ p → m.positive ≡ q → (l ≡ m) ⊎ (l ≡ complement m)
    by_sign true true e f = inl (made l m (e ∙ sym f) a)
    by_sign false false e f = inl (made l m (e ∙ sym f) a)
    by_sign true false e f = inr (made l (complement m) (e ∙ sym (ap not f)) a)
    by_sign false true e f = inr (made l (complement m) (e ∙ sym (ap not f)) a)

-- a literal whose atom has an entry is true or false
pub true_or_false : (t : Trail) (l : Signed ℕ) → (level_of t.entries l.atom ≡ None → ⊥) → Contains (literals_of t.entries) l ⊎ IsFalseIn t.entries l
true_or_false t l n =
    let e = entry_of t.entries l.atom n in
    elim (same_literal e.0.lit l e.2) [
      | inl same ↦ inl (subst (Contains (literals_of t.entries)) same (to_literals t.entries e.0 e.1))
      | inr other ↦ inr (subst (Contains (literals_of t.entries)) other (to_literals t.entries e.0 e.1))
    ]

clause_cases : (t : Trail) (c : List (Signed ℕ)) → All (λ l. Contains (literals_of t.entries) l ⊎ IsFalseIn t.entries l) c → ((l : Signed ℕ) × Contains c l × Contains (literals_of t.entries) l) ⊎ All (IsFalseIn t.entries) c
clause_cases t [] h = inr (All-nil (IsFalseIn t.entries))
clause_cases t (x ∷ xs) h =
    let P : Signed ℕ → Type 0 = λ l. Contains (literals_of t.entries) l ⊎ IsFalseIn t.entries l in
    elim (All-head P x xs h) [
      | inl yes_here ↦ inl (x, (0, omega arith, refl), yes_here)
      | inr false_here ↦ elim (clause_cases t xs (All-tail P x xs h)) [
        | inl f ↦ inl (f.0, (suc f.1.0, omega (arith, f.1.1), f.1.2), f.2)
        | inr all ↦ inr (All-cons (IsFalseIn t.entries) x xs false_here all)
      ]
    ]

-- the valuation has the values of the trail
literal_true : (t : Trail) (valuation : List Bool) (l : Signed ℕ) → All (IsSaved valuation) t.entries → Contains (literals_of t.entries) l → IsTrueLiteral (IsHeld valuation) l
literal_true t valuation l saved c =
    let f = of_literals t.entries l c in
    by_sign l.positive refl (subst (λ x. slice_get valuation x.atom ≡ Some x.positive) (sym f.2) (All-contains (IsSaved valuation) t.entries f.0 saved f.1))
  where
    by_sign : (p : Bool) → l.positive ≡ p → slice_get valuation l.atom ≡ Some l.positive → IsTrueLiteral (IsHeld valuation) l
    by_sign true s at = subst (λ b. signed b (IsHeld valuation l.atom)) (sym s) (at ∙ ap Some s)
    by_sign false s at = subst (λ b. signed b (IsHeld valuation l.atom)) (sym s) (λ h. false≢true (same_Some false true (sym (at ∙ ap Some s) ∙ h)))

pub satisfied : (assumptions : List (Signed ℕ)) (s : Search) (valuation : List Bool) → IsKept s → IsTrail s.trail.trail → IsStable s.clauses s.trail.trail.entries → ((k : ℕ) → k < s.trail.trail.atoms → level_of s.trail.trail.entries k ≡ None → ⊥)
    → All (IsSaved valuation) s.trail.trail.entries → All (IsTrueUpTo s.trail.trail.entries s.assumed) assumptions → MakesTrue valuation s.log.added assumptions
satisfied assumptions s valuation k v stable full saved all =
    let t = s.trail.trail in
    record {
      clauses_true = All-from_contained (IsTrueClause (IsHeld valuation)) s.log.added (λ c inside.
          let n = All-contains (IsFound s.clauses s.log.names) s.log.added c k.log.held inside in
          let low = All-contains (AtomsBelow t.atoms) s.log.added c k.log.below inside in
          elim (clause_cases t c (All-weaker (λ l. l.atom < t.atoms) (λ l. Contains (literals_of t.entries) l ⊎ IsFalseIn t.entries l) (λ l h. true_or_false t l (full l.atom h)) c low)) [
            | inl f ↦ (f.1.0, f.0, f.1.1, f.1.2, literal_true t valuation f.0 saved f.2)
            | inr none ↦ absurd (stable.no_conflict n.0 (c, n.2, none))
          ]);
      assumptions_true = All-weaker (IsTrueUpTo t.entries s.assumed) (IsTrueLiteral (IsHeld valuation)) (λ l f. literal_true t valuation l saved (subst (Contains (literals_of t.entries)) f.2 (to_literals t.entries f.0 f.1))) assumptions all;
    }

-- the core, one assumption further
pub core_more : (es : List Entry) (marks : List Bool) (r : Signed ℕ) (assumptions core more : List (Signed ℕ)) (i : ℕ) (d : Signed ℕ) → i < length assumptions → (get_or assumptions i d ≡ r) ⊎ Contains (literals_of es) (get_or assumptions i d) → more ≡ core ++ get_or assumptions i d ∷ []
    → IsCoreIn es marks r (take i assumptions) core → IsCoreIn es marks r (take (i + 1) assumptions) more
core_more es marks r assumptions core more i d h has grown c =
    let x = get_or assumptions i d in
    subst (λ xs. IsCoreIn es marks r xs more) (sym (take_more assumptions i d h))
    (subst (IsCoreIn es marks r (take i assumptions ++ x ∷ [])) (sym grown)
    (record {
      within = sub_push core (take i assumptions) x c.within;
      whole = All-push (λ l. IsInCore es marks r l → Contains (core ++ x ∷ []) l) (take i assumptions) x
          (All-weaker (λ l. IsInCore es marks r l → Contains core l) (λ l. IsInCore es marks r l → Contains (core ++ x ∷ []) l) (λ l f m. Contains-append_left core (x ∷ []) l (f m)) (take i assumptions) c.whole)
          (λ m. Contains-push core x);
      true_ones = All-push (λ l. (l ≡ r) ⊎ Contains (literals_of es) l) core x c.true_ones has;
    }))

pub core_same : (es : List Entry) (marks : List Bool) (r : Signed ℕ) (assumptions core : List (Signed ℕ)) (i : ℕ) (d : Signed ℕ) → i < length assumptions → (IsInCore es marks r (get_or assumptions i d) → ⊥) → IsCoreIn es marks r (take i assumptions) core → IsCoreIn es marks r (take (i + 1) assumptions) core
core_same es marks r assumptions core i d h free c =
    let x = get_or assumptions i d in
    subst (λ xs. IsCoreIn es marks r xs core) (sym (take_more assumptions i d h))
    (record {
      within = sub_more core (take i assumptions) (x ∷ []) c.within;
      whole = All-push (λ l. IsInCore es marks r l → Contains core l) (take i assumptions) x c.whole (λ m. absurd (free m));
      true_ones = c.true_ones;
    })

-- the complements of the core are what the hints close from
pub core_free : (t : Trail) (marks : List Bool) (r : Signed ℕ) (assumptions core : List (Signed ℕ)) → IsTrail t → IsCoreIn t.entries marks r assumptions core → (e : Entry) → Contains t.entries e → e.lit ≢ complement r → Contains (map complement core) e.lit → ⊥
core_free t marks r assumptions core v c e inside other k =
    All-contains (λ x. (x ≡ e.lit → ⊥)) (map complement core) e.lit
    (All-map (λ x. (x ≡ e.lit → ⊥)) complement core
    (All-weaker (λ l. (l ≡ r) ⊎ Contains (literals_of t.entries) l) (λ l. (complement l ≡ e.lit → ⊥)) (λ l f q. elim f [
      | inl same ↦ other (sym q ∙ ap complement same)
      | inr true_one ↦ let d = of_literals t.entries l true_one in consistent t e d.0 v inside d.1 (sym q ∙ ap complement d.2)
    ]) core c.true_ones)) k refl

pub core_has : (t : Trail) (marks : List Bool) (r : Signed ℕ) (assumptions core : List (Signed ℕ)) → Contains assumptions r → ((e : Entry) → Contains t.entries e → IsDecision e → Contains assumptions e.lit) → IsCoreIn t.entries marks r assumptions core → HasDecisionsAnd (complement r) t.entries marks (map complement core)
core_has t marks r assumptions core inside decisions c = (
  contains_map complement core r (All-contains (λ l. IsInCore t.entries marks r l → Contains core l) assumptions r c.whole inside (inl refl)),
  λ e k chosen m. contains_map complement core e.lit (All-contains (λ l. IsInCore t.entries marks r l → Contains core l) assumptions e.lit c.whole (decisions e k chosen) (inr (e, k, refl, chosen, m))),
)

-- what the trail's value says
pub truth_read : (t : Trail) (l : Signed ℕ) (o : Option Bool) (b : Bool) → IsTrail t → o ≡ value_of t.entries l → b ≡ unwrap_or o false → MatchBool b (Contains (literals_of t.entries) l) (¬ Contains (literals_of t.entries) l)
truth_read t l (Some true) b v read got = subst (λ x. MatchBool x (Contains (literals_of t.entries) l) (¬ Contains (literals_of t.entries) l)) (sym got) (true_value t.entries l (sym read))
truth_read t l (Some false) b v read got = subst (λ x. MatchBool x (Contains (literals_of t.entries) l) (¬ Contains (literals_of t.entries) l)) (sym got) (λ c. true≢false (same_Some true false (sym (true_has_value t.entries l v.once c) ∙ sym read)))
truth_read t l None b v read got = subst (λ x. MatchBool x (Contains (literals_of t.entries) l) (¬ Contains (literals_of t.entries) l)) (sym got) (λ c. none-some true (read ∙ true_has_value t.entries l v.once c))

test_self : (l : Signed ℕ) → (beq l.positive l.positive && eqb l.atom l.atom) ≡ true
test_self l = ap (λ b. b && eqb l.atom l.atom) (sign_self l.positive) ∙ eq-eqb l.atom l.atom refl
  where
    sign_self : (b : Bool) → beq b b ≡ true
    sign_self true = refl
    sign_self false = refl

pub literals_differ : (l r : Signed ℕ) → false ≡ (beq l.positive r.positive && eqb l.atom r.atom) → l ≡ r → ⊥
literals_differ l r e q = false≢true (e ∙ ap (λ x. beq l.positive x.positive && eqb l.atom x.atom) (sym q) ∙ test_self l)

pub not_in_core_unmarked : (es : List Entry) (marks : List Bool) (r l : Signed ℕ) (b : Bool) → false ≡ (beq l.positive r.positive && eqb l.atom r.atom) → b ≡ get_or marks l.atom false → b ≡ false → IsInCore es marks r l → ⊥
not_in_core_unmarked es marks r l b other read free (inl same) = literals_differ l r other same
not_in_core_unmarked es marks r l b other read free (inr e) = true≢false (sym e.4 ∙ ap (λ x. get_or marks x.atom false) e.2 ∙ sym read ∙ free)

pub not_in_core_given : (t : Trail) (marks : List Bool) (r l : Signed ℕ) (o : Option ℕ) (b : Bool) → IsTrail t → false ≡ (beq l.positive r.positive && eqb l.atom r.atom) → o ≡ reason_of t.entries l.atom → b ≡ is_some o → b ≡ true → IsInCore t.entries marks r l → ⊥
not_in_core_given t marks r l o b v other read some is (inl same) = literals_differ l r other same
not_in_core_given t marks r l o b v other read some is (inr e) =
    let none : o ≡ None = read ∙ reason_found t e.0 l.atom v e.1 (ap (λ x. x.atom) e.2) ∙ e.3 in
    false≢true (sym (ap is_some none) ∙ sym some ∙ is)

-- a refutation by the steps
pub answer_refutes : (n : ℕ) (added : List (List (Signed ℕ))) (assumptions core : List (Signed ℕ)) (steps kept : List Step) → AreGood added n steps → IsSubList core assumptions → EndsWith steps (map complement core) → IsCutOf steps kept → Refutes n added assumptions core kept
answer_refutes n added assumptions core steps kept good within last cuts =
    let h = cuts added n (map complement core) good last in
    core_refutes n added assumptions core kept (record { within = within; good = h.0; last = h.1 })

pub clash_answer : (n : ℕ) (added : List (List (Signed ℕ))) (assumptions core : List (Signed ℕ)) (l : Signed ℕ) → IsSubList core assumptions → AtomsBelow n core → Contains core l → Contains core (complement l) → Refutes n added assumptions core ((record { clause = map complement core; hints = [] }) ∷ [])
clash_answer n added assumptions core l within low here there =
    let s : Step = record { clause = map complement core; hints = [] } in
    let first : Contains (map complement core) (complement l) = contains_map complement core l here in
    let second : Contains (map complement core) (complement (complement l)) = contains_map complement core (complement l) there in
    let shown : IsShownDerivation added (s ∷ []) = shown_push added [] s (good_none added n).shown (complement l, first, second) in
    let last : EndsWith (s ∷ []) (map complement core) = (s, refl, All-contains_itself s.clause, All-contains_itself s.clause) in
    let below : AtomsBelow n (map complement core) = All-map (λ x. x.atom < n) complement core low in
    record {
      none = none_true added assumptions core (s ∷ []) shown within last;
      within = within;
      shown = shown;
      last = last;
      hinted = λ free. absurd (free (l, here, there));
      atoms_below = All-cons (λ x. AtomsBelow n x.clause) s [] below (All-nil (λ x. AtomsBelow n x.clause));
    }

-- the greater of two numbers
max_test : (a b : ℕ) (t u : Bool) → cond (is_lt (cond t Less (cond u Equal Greater))) a b ≡ cond t a b
max_test a b true u = refl
max_test a b false true = refl
max_test a b false false = refl

pub max_facts : (a b m : ℕ) → m ≡ ord_max nat_cmp a b → (a ≤ m) × (b ≤ m) × ((top : ℕ) → a < top → b < top → m < top)
max_facts a b m e = by_test (nat_lt b a) refl (e ∙ max_test a b (nat_lt b a) (b == a))
  where
    by_test : (t : Bool) → nat_lt b a ≡ t → m ≡ cond (nat_lt b a) a b → (a ≤ m) × (b ≤ m) × ((top : ℕ) → a < top → b < top → m < top)
    by_test true f g =
        let is : m ≡ a = g ∙ ap (λ x. cond x a b) f in
        let low : b < a = ltb-true b a f in
        (omega arith, omega arith, λ top h k. omega arith)
    by_test false f g =
        let is : m ≡ b = g ∙ ap (λ x. cond x a b) f in
        let low : a ≤ b = ltb-false b a f in
        (omega arith, omega arith, λ top h k. omega arith)
