-- Levels are taken back.
use Rattle.std.proofs.Common.{◌≡◌, ℕ, suc, zero, ◌+◌, ◌-◌, ◌*◌, ◌<◌, ◌≤◌, Bool, true, false, ◌⊎◌, inl, inr, List, [], ◌∷◌, ◌++◌, length, take, min, Option, Some, None, Result, Ok, Err, refl, sym, ap, ◌∙◌, subst, arith}
use Rattle.std.specs.Prelude.{All, Contains, slice_get, unwrap_or, is_some, OnOk}
use Rattle.std.proofs.lemmas.List.Elements.{All-nil, All-contains, All-weaker}
use Rattle.std.proofs.lemmas.Option.{none-some, same_Some}
use Rattle.std.proofs.lemmas.Bool.{true≢false}
use Rattle.std.proofs.lemmas.List.{take_all}
use Rattle.inst_logic.specs.declared.signed.Signed.{Signed}
use Rattle.prop_logic.proofs.ListLaws.{Contains-slice_get, slice_get-Contains, All-from_contained}
use Rattle.cdcl_trail.specs.declared.entry.Entry.{Entry}
use Rattle.cdcl_trail.specs.Trail.{Trail, IsTrail, IsDecision, level_of, reason_of, literals_of, entries_up_to, back_at, with_implied}
use Rattle.cdcl_trail.specs.Propagation.{IsFalseIn, IsConflict}
use Rattle.cdcl_trail.proofs.LevelLaws.{up_to_up_to}
use Rattle.cdcl_trail.proofs.TrailLaws.{level_within}
use Rattle.prop_logic.specs.declared.solver.Answer.{Answer}
use Rattle.cdcl_core.specs.declared.activity.Activity.{Activity}
use Rattle.cdcl_core.specs.declared.search.Search.{Search}
use Rattle.cdcl_core.specs.Search.{IsKept, IsTrueUpTo, IsSearch, IsBackFrom, weight, Advances, Ends}
use Rattle.cdcl_core.proofs.EntryLaws.{entry_at, pair_at, before_or_here, of_false, to_false, level_found, reason_found}
use Rattle.cdcl_core.proofs.GoLaws.{seen_search, none_of}
use Rattle.cdcl_core.proofs.KeptLaws.{ends_from}
use Rattle.cdcl_core.proofs.Measure.{weight_below, weight_backjump}
use Rattle.cdcl_core.proofs.RoomLaws.{room}
use Rattle.cdcl_core.proofs.SearchLaws.{of_up_to, up_to_contains}

pub both_ok : {X E : Type 0} (r : Result X E) (P Q R : Type 0) → (P → Q → R) → OnOk r P → OnOk r Q → OnOk r R
both_ok (Ok x) P Q R f p q = f p q
both_ok (Err e) P Q R f p q = tt

take_zero : (P : Signed ℕ → Type 0) (xs : List (Signed ℕ)) → All P (take 0 xs)
take_zero P [] = All-nil P
take_zero P (x ∷ xs) = All-nil P

none_checked : (P : Signed ℕ → Type 0) (n : ℕ) (xs : List (Signed ℕ)) → n ≡ 0 → All P (take n xs)
none_checked P n xs e = subst (λ k. All P (take k xs)) (sym e) (take_zero P xs)

-- the search with fewer levels
pub back_search : (assumptions : List (Signed ℕ)) (old new : Search) (level : ℕ) → level ≤ old.trail.trail.level → new.trail.trail ≡ back_at old.trail.trail level → IsKept new → new.assumed ≡ min old.assumed level → new.checked ≡ 0 → IsSearch assumptions old → IsSearch assumptions new
back_search assumptions old new level low trail kept assumed checked s =
    let es = old.trail.trail.entries in
    let entries : new.trail.trail.entries ≡ entries_up_to es level = ap (λ x. x.entries) trail in
    let levels : new.trail.trail.level ≡ level = ap (λ x. x.level) trail in
    record {
      kept = kept;
      low = omega (arith, assumed, levels);
      decisions = λ e c chosen h.
          let f = of_up_to es level e (subst (λ xs. Contains xs e) entries c) in
          s.decisions e f.0 chosen (omega (arith, h, assumed));
      all_true = λ h. All-weaker (IsTrueUpTo es old.assumed) (IsTrueUpTo new.trail.trail.entries new.assumed)
          (λ a f. (f.0, subst (λ xs. Contains xs f.0) (sym entries) (up_to_contains es level f.0 f.1 (omega (arith, f.3, h, assumed, levels))), f.2, omega (arith, f.3, h, assumed, levels)))
          assumptions (s.all_true (omega (arith, h, assumed, levels, low)));
      checked = none_checked (Contains (literals_of new.trail.trail.entries)) new.checked assumptions checked;
    }

pub back_from : (old new : Search) (level : ℕ) → IsTrail old.trail.trail → level ≤ old.trail.trail.level → new.trail.trail ≡ back_at old.trail.trail level → IsKept new → new.assumed ≡ min old.assumed level → new.checked ≡ 0 → new.log ≡ old.log → IsBackFrom old new
back_from old new level v low trail kept assumed checked log = record {
  trail = v;
  level = level;
  within = low;
  back = trail;
  added = ap (λ x. x.added) log;
  search = λ assumptions s. back_search assumptions old new level low trail kept assumed checked s;
}

pub back_seen : (first s : Search) (m : List Bool) (a : Activity) → length m ≡ length s.seen → IsBackFrom first s → IsBackFrom first (record s { seen = m; activity = a })
back_seen first s m a same b = record {
  trail = b.trail;
  level = b.level;
  within = b.within;
  back = b.back;
  added = b.added;
  search = λ assumptions x. seen_search assumptions s m a same (b.search assumptions x);
}

-- the clause is false at the highest level of its literals
pub conflict_back : (t : Trail) (clauses : List (Option (List (Signed ℕ)))) (number highest level : ℕ) (xs : List (Signed ℕ)) → IsTrail t → (f : IsConflict clauses t.entries number) → xs ≡ f.0 → All (λ l. unwrap_or (level_of t.entries l.atom) 0 ≤ highest) xs → level ≡ min highest t.level
    → IsConflict clauses (entries_up_to t.entries level) number
conflict_back t clauses number highest level xs v f is reached low = (
  f.0,
  f.1,
  All-from_contained (IsFalseIn (entries_up_to t.entries level)) f.0 (λ l c.
      let g = of_false t.entries l (All-contains (IsFalseIn t.entries) f.0 l f.2 c) in
      let k = ap (λ o. unwrap_or o 0) (level_found t g.0 l.atom v g.1 (ap (λ x. x.atom) (sym g.2))) in
      let r = All-contains (λ x. unwrap_or (level_of t.entries x.atom) 0 ≤ highest) xs l reached (subst (λ ys. Contains ys l) (sym is) c) in
      let top = All-contains (λ x. x.level ≤ t.level) t.entries g.0 v.levels g.1 in
      to_false (entries_up_to t.entries level) g.0 l (up_to_contains t.entries level g.0 g.1 (omega (arith, k, r, top, low))) g.2),
)

-- a backjump in two steps
pub advances_from : (first old new : Search) (l : Signed ℕ) (level key : ℕ) → IsBackFrom first old → new.trail.trail ≡ with_implied (back_at old.trail.trail level) l key → level < old.trail.trail.level → new.log.added ≡ old.log.added → Advances first new
advances_from first old new l level key b trail below added =
    let t = first.trail.trail in
    let d : Entry = record { lit = l; level = level; reason = Some key } in
    let up : old.trail.trail.entries ≡ entries_up_to t.entries b.level = ap (λ x. x.entries) b.back in
    let low : level < b.level = omega (arith, below, ap (λ x. x.level) b.back) in
    let es : new.trail.trail.entries ≡ entries_up_to t.entries level ++ d ∷ [] = ap (λ x. x.entries) trail ∙ ap (λ xs. entries_up_to xs level ++ d ∷ []) up ∙ ap (λ xs. xs ++ d ∷ []) (up_to_up_to t.entries level b.level (omega (arith, low))) in
    let full = room t b.trail in
    let top = level_within t b.trail in
    record {
      same = record { atoms = ap (λ x. x.atoms) trail ∙ ap (λ x. x.atoms) b.back; added = added ∙ b.added };
      within = weight_below t.atoms t.entries full;
      risen = subst (λ xs. weight t.atoms t.entries < weight t.atoms xs) (sym es) (weight_backjump t.atoms level t.entries d full (omega (arith, low, b.within, top, full)) refl);
    }

-- a question begins
pub begun_at : (assumptions : List (Signed ℕ)) (old s : Search) (level : ℕ) → s.trail.trail ≡ back_at old.trail.trail level → s.assumed ≡ level → s.checked ≡ 0
    → ((e : Entry) → Contains old.trail.trail.entries e → IsDecision e → e.level ≤ level → Contains assumptions e.lit) → IsKept s → IsSearch assumptions s
begun_at assumptions old s level trail assumed checked shared k = record {
  kept = k;
  low = omega (arith, assumed, ap (λ x. x.level) trail);
  decisions = λ e c chosen h.
      let f = of_up_to old.trail.trail.entries level e (subst (λ es. Contains es e) (ap (λ x. x.entries) trail) c) in
      shared e f.0 chosen (omega (arith, h, assumed));
  all_true = λ h. absurd (omega (arith, h, assumed, ap (λ x. x.level) trail));
  checked = none_checked (Contains (literals_of s.trail.trail.entries)) s.checked assumptions checked;
}

-- the decisions among the first entries are assumptions
abbrev pub AreShared : List Entry → List (Signed ℕ) → ℕ → Type 0
AreShared entries assumptions place = (e : Entry) → Contains (take place entries) e → IsDecision e → Contains assumptions e.lit

pub shared_more : (t : Trail) (assumptions : List (Signed ℕ)) (place : ℕ) (e : Entry) → slice_get t.entries place ≡ Some e → (IsDecision e → Contains assumptions e.lit) → AreShared t.entries assumptions place → AreShared t.entries assumptions (place + 1)
shared_more t assumptions place e at here before = λ d c chosen.
    elim (before_or_here t.entries place e d at c) [
      | inl old ↦ before d old chosen
      | inr is ↦ subst (λ x. Contains assumptions x.lit) is (here (ap (λ x. x.reason) is ∙ chosen))
    ]

-- what is below the level of the decision at a place stands before it
pub shared_below : (t : Trail) (assumptions : List (Signed ℕ)) (place level : ℕ) (e : Entry) → IsTrail t → slice_get t.entries place ≡ Some e → IsDecision e → level ≤ e.level - 1 → AreShared t.entries assumptions place
    → (d : Entry) → Contains t.entries d → IsDecision d → d.level ≤ level → Contains assumptions d.lit
shared_below t assumptions place level e v at chosen low before d c decided h =
    let high = All-contains (λ x. IsDecision x → 0 < x.level) t.entries e v.above (Contains-slice_get t.entries place e at) chosen in
    let i = slice_get-Contains t.entries d c in
    elim (cases i.0 place) [
      | inl less ↦ before d (in_take t.entries place i.0 d less i.1) decided
      | inr more ↦ elim (cases place i.0) [
        | inl after ↦ absurd (omega (arith, pair_at (λ a b. a.level ≤ b.level) t.entries place i.0 e d v.rising after at i.1, h, low, high))
        | inr same ↦
            let is : e ≡ d = same_Some e d (sym at ∙ ap (slice_get t.entries) (both place i.0 more same) ∙ i.1) in
            absurd (omega (arith, ap (λ x. x.level) is, h, low, high))
      ]
    ]
  where
    cases : (a b : ℕ) → (a < b) ⊎ (b ≤ a)
    cases zero zero = inr (omega arith)
    cases zero (suc b) = inl (omega arith)
    cases (suc a) zero = inr (omega arith)
    cases (suc a) (suc b) = elim (cases a b) [ inl q ↦ inl (omega arith) | inr q ↦ inr (omega arith) ]

    both : (a b : ℕ) → a ≤ b → b ≤ a → a ≡ b
    both a b p q = omega (arith, p, q)

    in_take : (es : List Entry) (n i : ℕ) (x : Entry) → i < n → slice_get es i ≡ Some x → Contains (take n es) x
    in_take es n i x less g = Contains-slice_get (take n es) i x (get_take es n i x less g)
      where
        get_take : (es : List Entry) (n i : ℕ) (x : Entry) → i < n → slice_get es i ≡ Some x → slice_get (take n es) i ≡ Some x
        get_take [] n i x less g = absurd (none-some x g)
        get_take (y ∷ ys) zero i x less g = absurd (omega (arith, less))
        get_take (y ∷ ys) (suc n) zero x less g = g
        get_take (y ∷ ys) (suc n) (suc i) x less g = get_take ys n i x (omega (arith, less)) g

-- an end after levels are taken back
pub back_ends : (assumptions : List (Signed ℕ)) (first old new : Search) (a : Answer) → IsBackFrom first old → Ends assumptions old new a → Ends assumptions first new a
back_ends assumptions first old new a b c = ends_from assumptions first old new a (record { atoms = ap (λ x. x.atoms) b.back; added = b.added }) c

-- the walk over the decisions
decided_or_given : (o : Option ℕ) (b : Bool) → is_some o ≡ b → b ≡ true → o ≡ None → ⊥
decided_or_given None b e h n = true≢false (sym h ∙ sym e)
decided_or_given (Some x) b e h n = none-some x (sym n)

pub shared_given : (t : Trail) (assumptions : List (Signed ℕ)) (place : ℕ) (lit : Signed ℕ) (o : Option ℕ) (b : Bool) → IsTrail t → place < length t.entries → ((e : Entry) → slice_get t.entries place ≡ Some e → lit ≡ e.lit) → o ≡ reason_of t.entries lit.atom → b ≡ is_some o → b ≡ true
    → AreShared t.entries assumptions place → AreShared t.entries assumptions (place + 1)
shared_given t assumptions place lit o b v low read reason is some before =
    let x = entry_at t.entries place lit low in
    let found = reason_found t x.0 lit.atom v (Contains-slice_get t.entries place x.0 x.1) (ap (λ y. y.atom) (sym (read x.0 x.1))) in
    shared_more t assumptions place x.0 x.1 (λ chosen. absurd (decided_or_given o b (sym is) some (reason ∙ found ∙ chosen))) before

pub shared_found : (t : Trail) (assumptions : List (Signed ℕ)) (place k : ℕ) (lit : Signed ℕ) → place < length t.entries → ((e : Entry) → slice_get t.entries place ≡ Some e → lit ≡ e.lit) → slice_get assumptions k ≡ Some lit
    → AreShared t.entries assumptions place → AreShared t.entries assumptions (place + 1)
shared_found t assumptions place k lit low read at before =
    let x = entry_at t.entries place lit low in
    shared_more t assumptions place x.0 x.1 (λ chosen. subst (Contains assumptions) (read x.0 x.1) (Contains-slice_get assumptions k lit at)) before

pub shared_stop : (t : Trail) (assumptions : List (Signed ℕ)) (place level : ℕ) (lit : Signed ℕ) (o : Option ℕ) (b : Bool) → IsTrail t → place < length t.entries → ((e : Entry) → slice_get t.entries place ≡ Some e → lit ≡ e.lit) → o ≡ reason_of t.entries lit.atom → b ≡ is_some o → b ≡ false
    → level ≤ unwrap_or (level_of t.entries lit.atom) 0 - 1 → AreShared t.entries assumptions place → (d : Entry) → Contains t.entries d → IsDecision d → d.level ≤ level → Contains assumptions d.lit
shared_stop t assumptions place level lit o b v low read reason is none stop before =
    let x = entry_at t.entries place lit low in
    let c = Contains-slice_get t.entries place x.0 x.1 in
    let atom = ap (λ y. y.atom) (sym (read x.0 x.1)) in
    let chosen = sym (reason_found t x.0 lit.atom v c atom) ∙ sym reason ∙ none_of o (sym is ∙ none) in
    let found = ap (λ y. unwrap_or y 0) (level_found t x.0 lit.atom v c atom) in
    shared_below t assumptions place level x.0 v x.1 chosen (omega (arith, stop, found)) before

pub shared_all : (t : Trail) (assumptions : List (Signed ℕ)) (place : ℕ) → length t.entries ≤ place → AreShared t.entries assumptions place → (d : Entry) → Contains t.entries d → IsDecision d → Contains assumptions d.lit
shared_all t assumptions place h before d c chosen = before d (subst (λ xs. Contains xs d) (sym (take_all place t.entries h)) c) chosen

-- the measure falls with each step
pub step_falls : (left less bound w v : ℕ) → less ≡ left → w < bound → w < v → less * (bound + 1) + (bound - v) < left * (bound + 1) + (bound - w)
step_falls left less bound w v e h g =
    let same = ap (λ k. k * (bound + 1)) e in
    omega (arith, same, h, g)
