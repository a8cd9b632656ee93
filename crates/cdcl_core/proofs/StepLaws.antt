-- The steps of the search: what is learned, what is decided, and the end.
use Rattle.std.proofs.Common.{◌≡◌, ◌≢◌, ℕ, suc, zero, ◌+◌, ◌-◌, ◌<◌, ◌≤◌, min, Bool, true, false, cond, ◌⊎◌, inl, inr, List, [], ◌∷◌, ◌++◌, length, take, drop, get_or, Some, None, refl, sym, ap, ◌∙◌, subst, arith, Option}
use Rattle.std.specs.Prelude.{All, Contains, slice_get, unwrap_or, ◌==◌}
use Rattle.std.proofs.lemmas.List.{length-drop, take_all}
use Rattle.std.proofs.lemmas.List.Elements.{All-nil, All-cons, All-tail, All-contains, All-weaker, Contains-push_cases, Contains-append_left}
use Rattle.std.proofs.lemmas.Option.{same_Some, none-some}
use Rattle.std.proofs.lemmas.Bool.{cases_eq}
use Rattle.std.proofs.lemmas.Bool.Decides.{nat_tests}
use Rattle.inst_logic.specs.declared.signed.Signed.{Signed}
use Rattle.inst_logic.specs.Signed.{complement}
use Rattle.prop_logic.specs.Literal.{AtomsBelow}
use Rattle.prop_logic.proofs.ListLaws.{All-from_contained, slice_get-Contains}
use Rattle.cdcl_trail.specs.declared.entry.Entry.{Entry}
use Rattle.cdcl_trail.specs.Attached.{AreAttached}
use Rattle.cdcl_trail.specs.Clauses.{clause_number}
use Rattle.cdcl_trail.specs.Trail.{Trail, IsTrail, IsUnset, level_of, literals_of, entries_up_to, with_decision, with_implied, back_at}
use Rattle.cdcl_trail.specs.Propagation.{IsFalseIn, GivesUnit}
use Rattle.cdcl_trail.proofs.TrailLaws.{level_within}
use Rattle.cdcl_core.specs.declared.search.Search.{Search}
use Rattle.cdcl_core.specs.Log.{IsLog}
use Rattle.cdcl_core.specs.Analysis.{IsFalseBelow, IsLearned}
use Rattle.cdcl_core.specs.Phases.{ArePhases}
use Rattle.cdcl_core.specs.Search.{AreGiven, IsKept, IsTrueUpTo, IsSearch, weight, Advances}
use Rattle.cdcl_core.proofs.PhaseLaws.{phases_push}
use Rattle.cdcl_core.proofs.EntryLaws.{pair_at, of_literals, to_literals, of_false, to_false, same_entry, level_found}
use Rattle.cdcl_core.proofs.Measure.{weight_push, weight_backjump, weight_below}
use Rattle.cdcl_core.proofs.SearchLaws.{up_to_contains, of_up_to, given_up_to, given_push}
use Rattle.cdcl_core.proofs.AnalysisLaws.{all_false}
use Rattle.cdcl_core.proofs.RoomLaws.{room}

-- levels: each opens later than the one below it
opened : (t : Trail) → IsTrail t → (m : ℕ) → 0 < m → m ≤ t.level → (k : ℕ) × (e : Entry) × (slice_get t.entries k ≡ Some e) × (e.level ≡ m) × (m ≤ k + 1)
opened t v zero h g = absurd (omega arith)
opened t v (suc zero) h g =
    let d = v.decided 1 h g in
    let at = slice_get-Contains t.entries d.0 d.1 in
    (at.0, d.0, at.1, d.2, omega arith)
opened t v (suc (suc m)) h g =
    let low = opened t v (suc m) (omega arith) (omega arith) in
    let d = v.decided (suc (suc m)) h g in
    let at = slice_get-Contains t.entries d.0 d.1 in
    let after : low.0 < at.0 = elim (order low.0 at.0) [
      | inl less ↦ less
      | inr other ↦ elim (cases_eq low.0 at.0) [
        | inl same ↦ absurd (let is : low.1 ≡ d.0 = same_Some low.1 d.0 (sym low.2 ∙ ap (slice_get t.entries) same ∙ at.1) in omega (arith, low.3, d.2, ap (λ x. x.level) is))
        | inr apart ↦ absurd (let up = pair_at (λ a b. a.level ≤ b.level) t.entries at.0 low.0 d.0 low.1 v.rising (omega (arith, other, apart)) at.1 low.2 in omega (arith, up, low.3, d.2))
      ]
    ] in
    (at.0, d.0, at.1, d.2, omega (arith, low.4, after))
  where
    order : (a b : ℕ) → (a < b) ⊎ (b ≤ a)
    order zero zero = inr (omega arith)
    order zero (suc b) = inl (omega arith)
    order (suc a) zero = inr (omega arith)
    order (suc a) (suc b) = elim (order a b) [ inl h ↦ inl (omega arith) | inr h ↦ inr (omega arith) ]

-- what is learned is unit at the highest level of its other literals
pub record IsUnitAt (t : Trail) (clause : List (Signed ℕ)) (l : Signed ℕ) (level : ℕ) : Type 0 where
  pub atom : l.atom < t.atoms
  pub unset : IsUnset (entries_up_to t.entries level) l.atom
  pub unit : GivesUnit (entries_up_to t.entries level) clause l
  pub within : level < t.level

false_at : (t : Trail) (top : ℕ) (m : Signed ℕ) → IsTrail t → IsFalseBelow t.entries top m → (e : Entry) × Contains t.entries e × (m ≡ complement e.lit) × (unwrap_or (level_of t.entries m.atom) 0 ≡ e.level)
false_at t top m v f = (f.0, f.1, f.2, ap (λ o. unwrap_or o 0) (level_found t f.0 m.atom v f.1 (ap (λ x. x.atom) (sym f.2))))

pub learned_unit : (t : Trail) (l : Signed ℕ) (ls : List (Signed ℕ)) (level : ℕ) → IsTrail t → IsLearned t.entries (l ∷ ls) → All (λ m. unwrap_or (level_of t.entries m.atom) 0 ≤ level) ls
    → ((top : ℕ) → 0 < top → All (λ m. unwrap_or (level_of t.entries m.atom) 0 < top) ls → level < top) → IsUnitAt t (l ∷ ls) l level
learned_unit t l ls level v h reached least =
    let e = h.0 in
    let below : level < e.level = least e.level h.3 (All-weaker (IsFalseBelow t.entries e.level) (λ m. unwrap_or (level_of t.entries m.atom) 0 < e.level)
    (λ m f. let g = false_at t e.level m v f in let k = ap (λ o. unwrap_or o 0) (level_found t f.0 m.atom v f.1 (ap (λ x. x.atom) (sym f.2))) in omega (arith, k, f.3)) ls h.4) in
    let top : e.level ≤ t.level = All-contains (λ x. x.level ≤ t.level) t.entries e v.levels h.1 in
    record {
      atom = subst (λ x. x.atom < t.atoms) (sym h.2) (All-contains (λ x. x.lit.atom < t.atoms) t.entries e v.atoms_below h.1);
      unset = All-from_contained (λ x. x.lit.atom ≢ l.atom) (entries_up_to t.entries level) (λ x c same.
          let f = of_up_to t.entries level x c in
          let is = same_entry t x e v f.0 h.1 (same ∙ ap (λ y. y.atom) h.2) in
          omega (arith, f.1, below, ap (λ y. y.level) is));
      unit = record {
        here = (0, omega arith, refl);
        others = All-cons (λ m. IsFalseIn (entries_up_to t.entries level) m ⊎ (m ≡ l)) l ls (inr refl)
            (All-from_contained (λ m. IsFalseIn (entries_up_to t.entries level) m ⊎ (m ≡ l)) ls (λ m c.
            let f = All-contains (IsFalseBelow t.entries e.level) ls m h.4 c in
            let k = ap (λ o. unwrap_or o 0) (level_found t f.0 m.atom v f.1 (ap (λ x. x.atom) (sym f.2))) in
            let r = All-contains (λ x. unwrap_or (level_of t.entries x.atom) 0 ≤ level) ls m reached c in
            let low : f.0.level ≤ level = omega (arith, k, r) in
            inl (to_false (entries_up_to t.entries level) f.0 m (up_to_contains t.entries level f.0 f.1 low) f.2)));
      };
      within = omega (arith, below, top);
    }

-- the search after a clause is learned
pub learned_search : (assumptions : List (Signed ℕ)) (old new : Search) (clause : List (Signed ℕ)) (l : Signed ℕ) (level key : ℕ) → IsTrail old.trail.trail → IsUnitAt old.trail.trail clause l level
    → new.trail.trail ≡ with_implied (back_at old.trail.trail level) l key → IsLog new.trail.trail.atoms new.clauses new.log → AreGiven new.clauses old.trail.trail.entries → clause_number new.clauses key ≡ Some clause → length new.seen ≡ new.trail.trail.atoms → ArePhases new.trail.trail new.phases → AreAttached new.trail new.clauses
    → new.log.added ≡ old.log.added → new.assumed ≡ min old.assumed level → new.checked ≡ 0 → IsSearch assumptions old → IsSearch assumptions new × Advances old new
learned_search assumptions old new clause l level key v u trail log given named marks phases attached added assumed checked s =
    let t = old.trail.trail in
    let up = entries_up_to t.entries level in
    let d : Entry = record { lit = l; level = level; reason = Some key } in
    let entries : new.trail.trail.entries ≡ up ++ d ∷ [] = ap (λ x. x.entries) trail in
    let levels : new.trail.trail.level ≡ level = ap (λ x. x.level) trail in
    let atoms : new.trail.trail.atoms ≡ t.atoms = ap (λ x. x.atoms) trail in
    let full = room t v in
    let low = level_within t v in
    let has : (a : Signed ℕ) → old.assumed ≤ level → IsTrueUpTo t.entries old.assumed a → IsTrueUpTo new.trail.trail.entries new.assumed a =
    λ a h f. (f.0, subst (λ es. Contains es f.0) (sym entries) (Contains-append_left up (d ∷ []) f.0 (up_to_contains t.entries level f.0 f.1 (omega (arith, f.3, h)))), f.2, omega (arith, f.3, h, assumed)) in (
      record {
        kept = record {
          attached = attached;
          log = log;
          given = subst (AreGiven new.clauses) (sym entries) (given_push new.clauses up d (given_up_to new.clauses t level v given) (λ n e. (clause, ap (clause_number new.clauses) (sym (same_Some key n e)) ∙ named, u.unit)));
          seen = marks;
          phases = phases;
        };
        low = omega (arith, assumed, levels);
        decisions = λ e c chosen h. elim (Contains-push_cases up d e (subst (λ es. Contains es e) entries c)) [
          | inl old_one ↦ let f = of_up_to t.entries level e old_one in s.decisions e f.0 chosen (omega (arith, h, assumed))
          | inr is ↦ absurd (none-some key (sym (ap (λ x. x.reason) is ∙ chosen)))
        ];
        all_true = λ h. All-weaker (IsTrueUpTo t.entries old.assumed) (IsTrueUpTo new.trail.trail.entries new.assumed) (λ a f. has a (omega (arith, h, assumed, levels)) f) assumptions (s.all_true (omega (arith, h, assumed, levels, u.within)));
        checked = subst (λ n. All (Contains (literals_of new.trail.trail.entries)) (take n assumptions)) (sym checked) (take_zero (Contains (literals_of new.trail.trail.entries)) assumptions);
      },
      record {
        same = record { atoms = atoms; added = added };
        within = weight_below t.atoms t.entries full;
        risen = subst (λ es. weight t.atoms t.entries < weight t.atoms es) (sym entries) (weight_backjump t.atoms level t.entries d full (omega (arith, u.within, low, full)) refl);
      },
    )
  where
    take_zero : (P : Signed ℕ → Type 0) (xs : List (Signed ℕ)) → All P (take 0 xs)
    take_zero P [] = All-nil P
    take_zero P (x ∷ xs) = All-nil P

-- a decision
pub decided_kept : (old new : Search) (l : Signed ℕ) → new.trail.trail ≡ with_decision old.trail.trail l → ((clauses : List (Option (List (Signed ℕ)))) → AreAttached old.trail clauses → AreAttached new.trail clauses) → new.clauses ≡ old.clauses → new.log ≡ old.log → new.seen ≡ old.seen → new.phases ≡ old.phases → IsKept old → IsKept new
decided_kept old new l trail attached clauses log marks phases k =
    let d : Entry = record { lit = l; level = old.trail.trail.level + 1; reason = None } in
    let entries : new.trail.trail.entries ≡ old.trail.trail.entries ++ d ∷ [] = ap (λ x. x.entries) trail in
    let atoms : new.trail.trail.atoms ≡ old.trail.trail.atoms = ap (λ x. x.atoms) trail in
    record {
      attached = subst (AreAttached new.trail) (sym clauses) (attached old.clauses k.attached);
      log = subst (λ n. IsLog n new.clauses new.log) (sym atoms) (subst (λ x. IsLog old.trail.trail.atoms x new.log) (sym clauses) (subst (IsLog old.trail.trail.atoms old.clauses) (sym log) k.log));
      given = subst (λ x. AreGiven x new.trail.trail.entries) (sym clauses) (subst (AreGiven old.clauses) (sym entries) (given_push old.clauses old.trail.trail.entries d k.given (λ n e. absurd (none-some n e))));
      seen = ap length marks ∙ k.seen ∙ sym atoms;
      phases = subst (ArePhases new.trail.trail) (sym phases) (phases_push old.trail.trail new.trail.trail old.phases d atoms entries k.phases);
    }

pub decided_advances : (old new : Search) (l : Signed ℕ) → IsTrail old.trail.trail → new.trail.trail ≡ with_decision old.trail.trail l → new.log ≡ old.log → Advances old new
decided_advances old new l v trail log =
    let d : Entry = record { lit = l; level = old.trail.trail.level + 1; reason = None } in
    record {
      same = record { atoms = ap (λ x. x.atoms) trail; added = ap (λ x. x.added) log };
      within = weight_below old.trail.trail.atoms old.trail.trail.entries (room old.trail.trail v);
      risen = subst (λ es. weight old.trail.trail.atoms old.trail.trail.entries < weight old.trail.trail.atoms es) (sym (ap (λ x. x.entries) trail)) (weight_push old.trail.trail.atoms old.trail.trail.entries d);
    }

literal_stays : (es : List Entry) (d : Entry) (l : Signed ℕ) → Contains (literals_of es) l → Contains (literals_of (es ++ d ∷ [])) l
literal_stays es d l c =
    let f = of_literals es l c in
    subst (Contains (literals_of (es ++ d ∷ []))) (sym f.2) (to_literals (es ++ d ∷ []) f.0 (Contains-append_left es (d ∷ []) f.0 f.1))

-- where all assumptions are true
pub chosen_search : (assumptions : List (Signed ℕ)) (old new : Search) (l : Signed ℕ) → new.trail.trail ≡ with_decision old.trail.trail l → IsKept new → new.assumed ≡ old.assumed → new.checked ≡ old.checked → IsSearch assumptions old → All (IsTrueUpTo old.trail.trail.entries old.assumed) assumptions → IsSearch assumptions new
chosen_search assumptions old new l trail kept assumed checked s all =
    let es = old.trail.trail.entries in
    let d : Entry = record { lit = l; level = old.trail.trail.level + 1; reason = None } in
    let entries : new.trail.trail.entries ≡ es ++ d ∷ [] = ap (λ x. x.entries) trail in
    let levels : new.trail.trail.level ≡ old.trail.trail.level + 1 = ap (λ x. x.level) trail in
    record {
      kept = kept;
      low = omega (arith, assumed, levels, s.low);
      decisions = λ e c chosen h. elim (Contains-push_cases es d e (subst (λ xs. Contains xs e) entries c)) [
        | inl old_one ↦ s.decisions e old_one chosen (omega (arith, h, assumed))
        | inr is ↦ absurd (omega (arith, h, assumed, s.low, ap (λ x. x.level) is))
      ];
      all_true = λ h. All-weaker (IsTrueUpTo es old.assumed) (IsTrueUpTo new.trail.trail.entries new.assumed) (λ a f. (f.0, subst (λ xs. Contains xs f.0) (sym entries) (Contains-append_left es (d ∷ []) f.0 f.1), f.2, omega (arith, f.3, assumed))) assumptions all;
      checked = subst (λ n. All (Contains (literals_of new.trail.trail.entries)) (take n assumptions)) (sym checked)
          (subst (λ xs. All (Contains (literals_of xs)) (take old.checked assumptions)) (sym entries) (All-weaker (Contains (literals_of es)) (Contains (literals_of (es ++ d ∷ []))) (λ a c. literal_stays es d a c) (take old.checked assumptions) s.checked));
    }

-- the next assumption
pub assumed_search : (assumptions : List (Signed ℕ)) (old new : Search) (l : Signed ℕ) (place : ℕ) → IsTrail old.trail.trail → new.trail.trail ≡ with_decision old.trail.trail l → IsKept new → new.assumed ≡ new.trail.trail.level → new.checked ≡ place → Contains assumptions l → old.trail.trail.level ≤ old.assumed
    → All (Contains (literals_of old.trail.trail.entries)) (take place assumptions) → IsSearch assumptions old → IsSearch assumptions new
assumed_search assumptions old new l place v trail kept assumed checked inside low before s =
    let es = old.trail.trail.entries in
    let d : Entry = record { lit = l; level = old.trail.trail.level + 1; reason = None } in
    let entries : new.trail.trail.entries ≡ es ++ d ∷ [] = ap (λ x. x.entries) trail in
    record {
      kept = kept;
      low = omega (arith, assumed);
      decisions = λ e c chosen h. elim (Contains-push_cases es d e (subst (λ xs. Contains xs e) entries c)) [
        | inl old_one ↦ let top = All-contains (λ x. x.level ≤ old.trail.trail.level) es e v.levels old_one in s.decisions e old_one chosen (omega (arith, top, low))
        | inr is ↦ subst (Contains assumptions) (ap (λ x. x.lit) is) inside
      ];
      all_true = λ h. absurd (omega (arith, h, assumed));
      checked = subst (λ n. All (Contains (literals_of new.trail.trail.entries)) (take n assumptions)) (sym checked)
          (subst (λ xs. All (Contains (literals_of xs)) (take place assumptions)) (sym entries) (All-weaker (Contains (literals_of es)) (Contains (literals_of (es ++ d ∷ []))) (λ a c. literal_stays es d a c) (take place assumptions) before));
    }

unset_step : (x : Entry) (xs : List Entry) (a : ℕ) (b : Bool) → (x.lit.atom == a) ≡ b → (level_of xs a ≡ None → IsUnset xs a) → cond b (Some x.level) (level_of xs a) ≡ None → IsUnset (x ∷ xs) a
unset_step x xs a true h rest e = absurd (none-some x.level (sym e))
unset_step x xs a false h rest e = All-cons (λ y. y.lit.atom ≢ a) x xs (λ q. differs x.lit.atom a h q) (rest e)
  where
    differs : (m n : ℕ) → (m == n) ≡ false → m ≡ n → ⊥
    differs m n f q = grind (arith, nat_tests)

pub unset_of : (es : List Entry) (a : ℕ) → level_of es a ≡ None → IsUnset es a
unset_of [] a e = All-nil (λ x. x.lit.atom ≢ a)
unset_of (x ∷ xs) a e = unset_step x xs a (x.lit.atom == a) refl (λ f. unset_of xs a f) e

-- the clause of an analysis, by its first literal and the others
pub learned_below : (t : Trail) (clause : List (Signed ℕ)) → IsTrail t → IsLearned t.entries clause → AtomsBelow t.atoms clause
learned_below t clause v h = All-weaker (IsFalseIn t.entries) (λ l. l.atom < t.atoms) (λ l f.
    let e = of_false t.entries l f in
    subst (λ x. x.atom < t.atoms) (sym e.2) (All-contains (λ x. x.lit.atom < t.atoms) t.entries e.0 v.atoms_below e.1)) clause (all_false t.entries clause h)

pub rest_below : (n : ℕ) (clause rest : List (Signed ℕ)) → rest ≡ drop 1 clause → AtomsBelow n clause → AtomsBelow n rest
rest_below n [] rest e h = subst (AtomsBelow n) (sym e) h
rest_below n (x ∷ xs) rest e h = subst (AtomsBelow n) (sym (e ∙ drop_none xs)) (All-tail (λ l. l.atom < n) x xs h)
  where
    drop_none : (ys : List (Signed ℕ)) → drop 0 ys ≡ ys
    drop_none [] = refl
    drop_none (y ∷ ys) = refl

pub learned_unit_of : (t : Trail) (clause rest : List (Signed ℕ)) (l d : Signed ℕ) (level : ℕ) → IsTrail t → IsLearned t.entries clause → 0 < length clause → l ≡ get_or clause 0 d → rest ≡ drop 1 clause → All (λ m. unwrap_or (level_of t.entries m.atom) 0 ≤ level) rest
    → ((top : ℕ) → 0 < top → All (λ m. unwrap_or (level_of t.entries m.atom) 0 < top) rest → level < top) → IsUnitAt t clause l level
learned_unit_of t [] rest l d level v h some is e reached least = absurd (omega (arith, some))
learned_unit_of t (x ∷ xs) rest l d level v h some is e reached least =
    let same : rest ≡ xs = e ∙ drop_none xs in
    subst (λ y. IsUnitAt t (x ∷ xs) y level) (sym is)
    (learned_unit t x xs level v h (subst (λ ys. All (λ m. unwrap_or (level_of t.entries m.atom) 0 ≤ level) ys) same reached)
    (λ top low all. least top low (subst (λ ys. All (λ m. unwrap_or (level_of t.entries m.atom) 0 < top) ys) (sym same) all)))
  where
    drop_none : (ys : List (Signed ℕ)) → drop 0 ys ≡ ys
    drop_none [] = refl
    drop_none (y ∷ ys) = refl

pub rest_is : (clause xs : List (Signed ℕ)) → xs ≡ clause → take (length xs - 1) (drop 1 xs) ≡ drop 1 clause
rest_is clause xs e = take_all (length xs - 1) (drop 1 xs) (omega (arith, length-drop 1 xs)) ∙ ap (drop 1) e
