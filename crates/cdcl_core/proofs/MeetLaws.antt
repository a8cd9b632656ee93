-- One literal further back in the analysis.
use Rattle.std.proofs.Common.{◌≡◌, ◌≢◌, ℕ, ◌+◌, ◌<◌, ◌≤◌, Bool, true, false, cond, Result, Ok, Err, ◌⊎◌, inl, inr, List, [], ◌∷◌, ◌++◌, length, map, take, replicate, get_or, Option, Some, None, refl, sym, ap, ◌∙◌, subst, arith}
use Rattle.std.specs.Prelude.{All, Contains, slice_get, reverse, unwrap_or, OnOk, IfSome, IfNone, ◌==◌, ◌&&◌}
use Rattle.std.proofs.lemmas.List.{reverse-append}
use Rattle.std.proofs.lemmas.List.Elements.{All-contains, All-weaker, All-contains_itself, Contains-push, Contains-append_left}
use Rattle.inst_logic.specs.declared.signed.Signed.{Signed}
use Rattle.inst_logic.specs.Signed.{complement}
use Rattle.prop_logic.specs.declared.literal.Hint.{Hint}
use Rattle.prop_logic.specs.Literal.{cited}
use Rattle.prop_logic.specs.Analysis.{ClosesAll}
use Rattle.prop_logic.proofs.ListLaws.{All-from_contained, Contains-slice_get, slice_get-Contains, slice_get_take, take_whole, Contains-take, take_slice_get}
use Rattle.cdcl_trail.specs.declared.entry.Entry.{Entry}
use Rattle.cdcl_trail.specs.Trail.{Trail, IsTrail, IsUnset, IsPlaceOf, level_of, reason_of}
use Rattle.cdcl_trail.specs.Propagation.{IsFalseIn}
use Rattle.cdcl_core.specs.declared.log.Log.{Log}
use Rattle.cdcl_core.specs.declared.analysis.Analysis.{Analysis}
use Rattle.cdcl_core.specs.Log.{IsNamed}
use Rattle.cdcl_core.specs.Places.{IsTaken}
use Rattle.cdcl_core.specs.Analysis.{IsMarked, marked_count, AreCounted, AreWaiting, IsReady, Resolves, NamesFalse, Covers, ClosesFrom, IsLearned, AreBelowFirst, HasAll, IsMet, IsBegun, IsAnalysis, HasDecisionsAnd, IsMetDecided, ShowsGiven}
use Rattle.cdcl_core.proofs.EntryLaws.{same_entry, pair_at, level_found, reason_found}
use Rattle.cdcl_core.proofs.AnalysisLaws.{none_in, counted_fewer, covers_taken, closes_kept, closes_resolved, closes_first, learned_free, learned_first, learned_more, first_fewer, first_resolved}

-- the next place, before which no marked literal is left out
pub met_taken : (log : Log) (t : Trail) (limit p : ℕ) (marks : List Bool) (new : List ℕ) (a : Analysis) → IsTaken limit a.waiting.places new p → AreWaiting t limit marks a.waiting.places → IsMet log t limit marks a → IsMet log t (p + 1) marks (record a { waiting = record { present = a.waiting.present; places = new } })
met_taken log t limit p marks new a n w x =
    let low : p + 1 ≤ limit = omega (arith, n.below) in
    record {
      closes = λ F none covers s. x.closes F none (covers_taken t limit p marks a.waiting.places new F n w covers) s;
      counted = counted_fewer t (p + 1) limit marks a.waiting.present low x.counted;
      learned = x.learned;
      first = first_fewer t.entries (p + 1) limit marks a.clause.items low x.first;
    }

kept_clause : (t : Trail) (i : ℕ) (e : Entry) (marks : List Bool) (clause : List (Signed ℕ)) → slice_get t.entries i ≡ Some e → IsMarked marks e.lit.atom → 0 < e.level → (clause ≡ [] → AreBelowFirst t.entries (take i t.entries) marks (complement e.lit ∷ []))
    → IsLearned t.entries clause → AreBelowFirst t.entries (take (i + 1) t.entries) marks clause → IsLearned t.entries (clause ++ complement e.lit ∷ []) × AreBelowFirst t.entries (take i t.entries) marks (clause ++ complement e.lit ∷ [])
kept_clause t i e marks [] at m high low learned first = (learned_first t i e marks at high, low refl)
kept_clause t i e marks (l ∷ ls) at m high low learned first = (learned_more t i e marks l ls at m first learned, first_fewer t.entries i (i + 1) marks (l ∷ ls) (omega arith) first)

pub met_kept : (log : Log) (t : Trail) (i : ℕ) (e : Entry) (marks : List Bool) (a b : Analysis) → slice_get t.entries i ≡ Some e → IsMarked marks e.lit.atom → 0 < e.level → (a.clause.items ≡ [] → AreBelowFirst t.entries (take i t.entries) marks (complement e.lit ∷ []))
    → b.clause.items ≡ a.clause.items ++ complement e.lit ∷ [] → b.hints.items ≡ a.hints.items → AreCounted t i marks b.waiting.present → IsMet log t (i + 1) marks a → IsMet log t i marks b
met_kept log t i e marks a b at m high low grown same counted x =
    let k = kept_clause t i e marks a.clause.items at m high low x.learned x.first in
    record {
      closes = subst (λ hs. ClosesFrom log t.entries (take i t.entries) marks (HasAll b.clause.items) (reverse hs)) (sym same)
          (closes_kept log t.entries t.entries i e marks (HasAll a.clause.items) (HasAll b.clause.items) (reverse a.hints.items) at
          (λ F all.
          let both : All (Contains F) (a.clause.items ++ complement e.lit ∷ []) = subst (λ c. All (Contains F) c) grown all in (
            All-from_contained (Contains F) a.clause.items (λ l c. All-contains (Contains F) (a.clause.items ++ complement e.lit ∷ []) l both (Contains-append_left a.clause.items (complement e.lit ∷ []) l c)),
            All-contains (Contains F) (a.clause.items ++ complement e.lit ∷ []) (complement e.lit) both (Contains-push a.clause.items (complement e.lit)),
          )) x.closes);
      counted = counted;
      learned = subst (IsLearned t.entries) (sym grown) k.0;
      first = subst (AreBelowFirst t.entries (take i t.entries) marks) (sym grown) k.1;
    }

pub met_resolved : (log : Log) (t : Trail) (i : ℕ) (e : Entry) (marks new : List Bool) (a was b : Analysis) → IsReady log t → slice_get t.entries i ≡ Some e → IsMarked marks e.lit.atom → AreCounted t i marks was.waiting.present
    → was.clause.items ≡ a.clause.items → was.hints.items ≡ a.hints.items → Resolves log t i e.lit marks new was b → IsMet log t (i + 1) marks a → IsMet log t i new b
met_resolved log t i e marks new a was b ready at mark counted clause hints r x =
    let h = r.hint in
    let same = r.same ∙ clause in
    let closes = closes_resolved log t t.entries i e h r.clause marks new (HasAll a.clause.items) (HasAll a.clause.items) (reverse a.hints.items) ready.trail (λ d c. c) (Contains-slice_get t.entries i e at) at r.named r.unit r.marked.marked r.marked.kept
    (λ F all. All-weaker (Contains F) (Contains (F ++ complement e.lit ∷ [])) (λ l c. Contains-append_left F (complement e.lit ∷ []) l c) a.clause.items all) x.closes in
    let back : reverse b.hints.items ≡ h ∷ reverse a.hints.items = ap reverse (r.hints ∙ ap (λ hs. hs ++ h ∷ []) hints) ∙ reverse-append a.hints.items (h ∷ []) in
    record {
      closes = subst (λ hs. ClosesFrom log t.entries (take i t.entries) new (HasAll b.clause.items) hs) (sym back)
          (subst (λ c. ClosesFrom log t.entries (take i t.entries) new (HasAll c) (h ∷ reverse a.hints.items)) (sym same) closes);
      counted = r.marked.counted i counted;
      learned = subst (IsLearned t.entries) (sym same) x.learned;
      first = subst (AreBelowFirst t.entries (take i t.entries) new) (sym same) (first_resolved t i e marks new a.clause.items ready.trail at mark x.first);
    }

-- where exactly the decisions stay
pub met_decided_taken : (log : Log) (t : Trail) (start limit p : ℕ) (l : Signed ℕ) (marks : List Bool) (new : List ℕ) (a : Analysis) → IsTaken limit a.waiting.places new p → AreWaiting t limit marks a.waiting.places → IsMetDecided log t start limit l marks a → IsMetDecided log t start (p + 1) l marks a
met_decided_taken log t start limit p l marks new a n w x = λ F none covers s. x F none (covers_taken t limit p marks a.waiting.places new F n w covers) s

in_first : (entries : List Entry) (start i : ℕ) (e : Entry) → slice_get entries i ≡ Some e → i < start → Contains (take start entries) e
in_first entries start i e at low = Contains-slice_get (take start entries) i e (take_slice_get entries start i e low at)

pub met_decided_kept : (log : Log) (t : Trail) (start i : ℕ) (l : Signed ℕ) (e : Entry) (marks : List Bool) (a : Analysis) → i < start → slice_get t.entries i ≡ Some e → IsMarked marks e.lit.atom → e.reason ≡ None → IsMetDecided log t start (i + 1) l marks a → IsMetDecided log t start i l marks a
met_decided_kept log t start i l e marks a low at m chosen x =
    let whole = take start t.entries in
    closes_kept log whole t.entries i e marks (HasDecisionsAnd l whole marks) (HasDecisionsAnd l whole marks) (reverse a.hints.items) at (λ F s. (s, s.1 e (in_first t.entries start i e at low) chosen m)) x

pub met_decided_resolved : (log : Log) (t : Trail) (start i : ℕ) (l : Signed ℕ) (e : Entry) (marks new : List Bool) (a b : Analysis) → IsReady log t → i < start → slice_get t.entries i ≡ Some e → Resolves log t i e.lit marks new a b → IsMetDecided log t start (i + 1) l marks a → IsMetDecided log t start i l new b
met_decided_resolved log t start i l e marks new a b ready low at r x =
    let whole = take start t.entries in
    let h = r.hint in
    let closes = closes_resolved log t whole i e h r.clause marks new (HasDecisionsAnd l whole marks) (HasDecisionsAnd l whole new) (reverse a.hints.items) ready.trail (λ d c. Contains-take t.entries start d c) (in_first t.entries start i e at low) at r.named r.unit r.marked.marked r.marked.kept
    (λ F s. (Contains-append_left F (complement e.lit ∷ []) l s.0, λ d c chosen m. Contains-append_left F (complement e.lit ∷ []) (complement d.lit) (s.1 d c chosen (r.marked.kept d.lit.atom m)))) x in
    let back : reverse b.hints.items ≡ h ∷ reverse a.hints.items = ap reverse r.hints ∙ reverse-append a.hints.items (h ∷ []) in
    subst (λ hs. ClosesFrom log whole (take i t.entries) new (HasDecisionsAnd l whole new) hs) (sym back) closes

-- the beginning
count_none : (level n : ℕ) (es : List Entry) → marked_count level (replicate n false) es ≡ 0
count_none level n [] = refl
count_none level n (e ∷ es) =
    let rest = count_none level n es in
    let here : get_or (replicate n false) e.lit.atom false ≡ false = unmarked (get_or (replicate n false) e.lit.atom false) (none_in n e.lit.atom) in
    omega (arith, rest, zero_bit (e.level == level) (get_or (replicate n false) e.lit.atom false) here)
  where
    unmarked : (b : Bool) → (b ≡ true → ⊥) → b ≡ false
    unmarked true h = absurd (h refl)
    unmarked false h = refl

    zero_bit : (b c : Bool) → c ≡ false → cond {A = ℕ} (b && c) 1 0 ≡ 0
    zero_bit true c e = ap (λ x. cond {A = ℕ} x 1 0) e
    zero_bit false c e = refl

pub counted_none : (t : Trail) (i n present : ℕ) → AreCounted t i (replicate n false) present
counted_none t i n present = omega (arith, count_none t.level n (take i t.entries))

pub met_first : (log : Log) (t : Trail) (i n : ℕ) (marks : List Bool) (a : Analysis) → i ≡ length t.entries → (f : NamesFalse log t.entries n) → IsBegun log t n f.0 marks a → IsMet log t i marks a
met_first log t i n marks a all f b =
    let h = f.1.0 in
    let whole : take i t.entries ≡ t.entries = ap (λ k. take k t.entries) all ∙ take_whole t.entries in
    let closes : ClosesFrom log t.entries t.entries marks (HasAll a.clause.items) (h ∷ []) = closes_first log t.entries t.entries h f.0 marks (HasAll a.clause.items) f.1.2 b.marked (λ F l s c. inl (All-contains (IsFalseIn t.entries) f.0 l f.2 c)) in
    record {
      closes = subst (λ hs. ClosesFrom log t.entries (take i t.entries) marks (HasAll a.clause.items) (reverse hs)) (sym (b.hints h f.1.1)) (subst (λ es. ClosesFrom log t.entries es marks (HasAll a.clause.items) (h ∷ [])) (sym whole) closes);
      counted = b.counted i;
      learned = subst (IsLearned t.entries) (sym b.clause) tt;
      first = subst (AreBelowFirst t.entries (take i t.entries) marks) (sym b.clause) tt;
    }

pub met_decided_first : (log : Log) (t : Trail) (start n : ℕ) (e : Entry) (marks : List Bool) (a : Analysis) → IsReady log t → slice_get t.entries start ≡ Some e → e.reason ≡ Some n
    → ((c : List (Signed ℕ)) → IsNamed log n c → IsBegun log t n c marks a) → IsMetDecided log t start start e.lit marks a
met_decided_first log t start n e marks a ready at reason begun =
    let whole = take start t.entries in
    let why = ready.implied start n e at reason in
    let h = why.1.0 in
    let b = begun why.0 why.1 in
    let closes : ClosesFrom log whole whole marks (HasDecisionsAnd e.lit whole marks) (h ∷ []) = closes_first log whole whole h why.0 marks (HasDecisionsAnd e.lit whole marks) why.1.2 b.marked (λ F l s c.
    elim (All-contains (λ m. IsFalseIn whole m ⊎ (m ≡ e.lit)) why.0 l why.2.others c) [
      | inl f ↦ inl f
      | inr same ↦ inr (subst (Contains F) (sym same) s.0)
    ]) in
    subst (λ hs. ClosesFrom log whole whole marks (HasDecisionsAnd e.lit whole marks) (reverse hs)) (sym (b.hints h why.1.1)) closes

-- the end: no more is marked
pub analysis_done : (log : Log) (t : Trail) (i : ℕ) (marks : List Bool) (a b : Analysis) → IsTrail t → ((F : List (Signed ℕ)) → Covers (take i t.entries) marks F) → b.clause.items ≡ a.clause.items → b.hints.items ≡ reverse a.hints.items → IsMet log t i marks a → IsAnalysis log t.entries b
analysis_done log t i marks a b v done same turned x =
    let clause = a.clause.items in
    let closes = x.closes clause (learned_free t clause v x.learned) (done clause) (All-contains_itself clause) in
    record {
      closes = subst (λ hs. ClosesAll b.clause.items (map (cited log.added log.steps) hs)) (sym turned) (subst (λ c. ClosesAll c (map (cited log.added log.steps) (reverse a.hints.items))) (sym same) closes);
      learned = subst (IsLearned t.entries) (sym same) x.learned;
    }

pub given_done : (log : Log) (t : Trail) (start i : ℕ) (e : Entry) (marks : List Bool) (a : Analysis) (hints : List Hint) → IsTrail t → slice_get t.entries start ≡ Some e → ((F : List (Signed ℕ)) → Covers (take i t.entries) marks F) → hints ≡ reverse a.hints.items → IsMetDecided log t start i e.lit marks a → ShowsGiven log t.entries e.lit marks hints
given_done log t start i e marks a hints v at done turned x = λ F free s.
    subst (λ hs. ClosesAll F (map (cited log.added log.steps) hs)) (sym turned)
    (x F
    (λ d c k.
    let p = slice_get-Contains (take start t.entries) d c in
    let g = slice_get_take t.entries start p.0 d p.1 in
    free d (Contains-take t.entries start d c) (λ q. pair_at (λ y z. y.lit.atom ≢ z.lit.atom) t.entries p.0 start d e v.once g.1 g.0 at (ap (λ y. y.atom) q)) k)
    (done F)
    (s.0, λ d c chosen m. s.1 d (Contains-take t.entries start d c) chosen m))

-- what the code reads of an entry
pub level_read : (t : Trail) (e : Entry) (l : Signed ℕ) (o : Option ℕ) (n : ℕ) → IsTrail t → Contains t.entries e → l ≡ e.lit → o ≡ level_of t.entries l.atom → n ≡ unwrap_or o 0 → e.level ≡ n
level_read t e l o n v c is read got = sym (got ∙ ap (λ x. unwrap_or x 0) (read ∙ ap (λ x. level_of t.entries x.atom) is ∙ level_found t e e.lit.atom v c refl))

pub reason_read : (t : Trail) (e : Entry) (l : Signed ℕ) (o : Option ℕ) → IsTrail t → Contains t.entries e → l ≡ e.lit → o ≡ reason_of t.entries l.atom → e.reason ≡ o
reason_read t e l o v c is read = sym (read ∙ ap (λ x. reason_of t.entries x.atom) is ∙ reason_found t e e.lit.atom v c refl)

pub on_ok : {T E : Type 0} (r : Result T E) (P Q : Type 0) → (P → Q) → OnOk r P → OnOk r Q
on_ok (Ok x) P Q f h = f h
on_ok (Err e) P Q f h = tt

pub on_ok_three : {T E : Type 0} (r : Result T E) (P R S Q : Type 0) → (P → R → S → Q) → OnOk r P → OnOk r R → OnOk r S → OnOk r Q
on_ok_three (Ok x) P R S Q f h g k = f h g k
on_ok_three (Err e) P R S Q f h g k = tt

-- the entry of a true literal is at the place that is read
pub place_read : (t : Trail) (l : Signed ℕ) (r : Option ℕ) (e : Entry) → IsTrail t → Contains t.entries e → e.lit ≡ l → IfSome r (IsPlaceOf t.entries l.atom) → IfNone r (IsUnset t.entries l.atom) → slice_get t.entries (unwrap_or r 0) ≡ Some e
place_read t l None e v c same some none = absurd (All-contains (λ x. x.lit.atom ≢ l.atom) t.entries e none c (ap (λ x. x.atom) same))
place_read t l (Some p) e v c same some none = some.1 ∙ ap Some (same_entry t some.0 e v (Contains-slice_get t.entries p some.0 some.1) c (some.2 ∙ ap (λ x. x.atom) (sym same)))
