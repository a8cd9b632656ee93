-- Propagation over copies of the clauses that watch says the same of the clauses.
use Rattle.std.proofs.Common.{◌≡◌, ◌≢◌, ℕ, ◌<◌, inl, inr, List, length, set, Option, Some, sym, ap, ◌∙◌, subst}
use Rattle.std.specs.Prelude.{Contains}
use Rattle.std.proofs.lemmas.Bool.{cases_eq}
use Rattle.std.proofs.lemmas.Option.{none-some}
use Rattle.inst_logic.specs.declared.signed.Signed.{Signed}
use Rattle.prop_logic.proofs.ListLaws.{slice_get-Contains}
use Rattle.cdcl_trail.specs.Arena.{AreCopies}
use Rattle.cdcl_trail.specs.Clauses.{clause_number, ClausesBelow, AddsClause, RemovesClause}
use Rattle.cdcl_trail.specs.Propagation.{IsConflict, Propagates}
use Rattle.cdcl_trail.specs.Running.{IsRunning, Runs, at_level}
use Rattle.cdcl_trail.specs.Trail.{Trail}
use Rattle.cdcl_trail.specs.Watch.{list_at, pair_at, AreWatched}
use Rattle.cdcl_trail.specs.Watching.{IsSettled}
use Rattle.cdcl_trail.specs.declared.entry.Entry.{Entry}
use Rattle.cdcl_trail.specs.declared.values.Values.{Values}
use Rattle.cdcl_trail.specs.declared.watch.WatchedPair.{WatchedPair}
use Rattle.cdcl_trail.specs.declared.watch.Watch.{Watch}
use Rattle.cdcl_trail.proofs.VisitLaws.{in_list, due_some}
use Rattle.cdcl_trail.proofs.WatchLaws.{pair_at_other}

-- the clause of a watch watches a pair
pub watch_has_pair : (clauses : List (Option (List (Signed ℕ)))) (lists : List (List Watch)) (pairs : List (Option WatchedPair)) (k : ℕ) (w : Watch) → AreWatched clauses lists pairs → Contains (list_at lists k) w → (p : WatchedPair) × (pair_at pairs w.number ≡ Some p)
watch_has_pair clauses lists pairs k w h has =
    let at = slice_get-Contains (list_at lists k) w has in
    let some = due_some (pair_at pairs w.number) k (subst (λ i. 0 < i) (h.counted k w.number) (in_list (list_at lists k) at.0 w at.1)) in
    (some.0, some.1)

-- the copies are watched as the clauses are
pub copies_watched : (clauses copies : List (Option (List (Signed ℕ)))) (lists : List (List Watch)) (pairs : List (Option WatchedPair)) → AreCopies clauses copies pairs → AreWatched clauses lists pairs → AreWatched copies lists pairs
copies_watched clauses copies lists pairs a h = record {
  blockers = λ k w c has at. h.blockers k w c has (a.there w.number c at);
  counted = h.counted;
  of_clauses = λ n p at.
      let x = h.of_clauses n p at in
      record { clause = x.clause; here = a.watching n p at ∙ x.here; first = x.first; second = x.second; apart = x.apart };
}

pub copies_running : (clauses copies : List (Option (List (Signed ℕ)))) (level : ℕ) (v : Values) (lists : List (List Watch)) (pairs : List (Option WatchedPair)) → AreCopies clauses copies pairs → IsRunning clauses level v lists pairs → IsRunning copies level v lists pairs
copies_running clauses copies level v lists pairs a r = record {
  values = r.values;
  trail = r.trail;
  watched = copies_watched clauses copies lists pairs a r.watched;
  slots = r.slots;
  below = λ n c at. r.below n c (a.there n c at);
}

pub copies_settled : (clauses copies : List (Option (List (Signed ℕ)))) (pairs pairs' : List (Option WatchedPair)) (entries : List Entry) (h : ℕ) → AreCopies clauses copies pairs → IsSettled clauses pairs' entries h → IsSettled copies pairs' entries h
copies_settled clauses copies pairs pairs' entries h a s n p g at watches falsified c here = s n p g at watches falsified c (a.there n c here)

-- after steps over the copies
pub still_copies : (clauses copies : List (Option (List (Signed ℕ)))) (lists' : List (List Watch)) (pairs pairs' : List (Option WatchedPair)) → AreCopies clauses copies pairs → AreWatched copies lists' pairs' → AreCopies clauses copies pairs'
still_copies clauses copies lists' pairs pairs' a h = record {
  there = a.there;
  watching = λ n p at. let x = h.of_clauses n p at in x.here ∙ sym (a.there n x.clause x.here);
}

pub clauses_watched : (clauses copies : List (Option (List (Signed ℕ)))) (lists' : List (List Watch)) (pairs' : List (Option WatchedPair)) → AreCopies clauses copies pairs' → AreWatched copies lists' pairs' → AreWatched clauses lists' pairs'
clauses_watched clauses copies lists' pairs' a h = record {
  blockers = λ k w c has at.
      let p = watch_has_pair copies lists' pairs' k w h has in
      h.blockers k w c has (a.watching w.number p.0 p.1 ∙ at);
  counted = h.counted;
  of_clauses = λ n p at.
      let x = h.of_clauses n p at in
      record { clause = x.clause; here = a.there n x.clause x.here; first = x.first; second = x.second; apart = x.apart };
}

pub clauses_running : (clauses copies : List (Option (List (Signed ℕ)))) (level : ℕ) (v v' : Values) (lists' : List (List Watch)) (pairs' : List (Option WatchedPair)) → AreCopies clauses copies pairs' → ClausesBelow (length v.entries.items) clauses → length v'.entries.items ≡ length v.entries.items
    → IsRunning copies level v' lists' pairs' → IsRunning clauses level v' lists' pairs'
clauses_running clauses copies level v v' lists' pairs' a below size r = record {
  values = r.values;
  trail = r.trail;
  watched = clauses_watched clauses copies lists' pairs' a r.watched;
  slots = r.slots;
  below = subst (λ m. ClausesBelow m clauses) (sym size) below;
}

pub clauses_given : (clauses copies : List (Option (List (Signed ℕ)))) (pairs : List (Option WatchedPair)) (old new : Trail) → AreCopies clauses copies pairs → Propagates copies old new → Propagates clauses old new
clauses_given clauses copies pairs old new a p = record {
  atoms = p.atoms;
  level = p.level;
  kept = p.kept;
  at_level = p.at_level;
  given = λ k e h get. let x = p.given k e h get in (x.0, x.1, x.2, a.there x.0 x.1 x.3, x.4);
}

pub clauses_settled : (clauses copies : List (Option (List (Signed ℕ)))) (pairs' : List (Option WatchedPair)) (entries : List Entry) (h : ℕ) → AreCopies clauses copies pairs' → IsSettled copies pairs' entries h → IsSettled clauses pairs' entries h
clauses_settled clauses copies pairs' entries h a s n p g at watches falsified c here = s n p g at watches falsified c (a.watching n p at ∙ here)

pub clauses_runs : (clauses copies : List (Option (List (Signed ℕ)))) (level : ℕ) (v v' : Values) (pairs pairs' : List (Option WatchedPair)) → AreCopies clauses copies pairs → AreCopies clauses copies pairs' → Runs copies level v pairs v' pairs' → Runs clauses level v pairs v' pairs'
clauses_runs clauses copies level v v' pairs pairs' a b r = record {
  added = clauses_given clauses copies pairs (at_level level v) (at_level level v') a r.added;
  kept = λ part h within settled. clauses_settled clauses copies pairs' part h b (r.kept part h within (copies_settled clauses copies pairs pairs part h a settled));
  loose = r.loose;
  room = r.room;
}

pub clauses_conflict : (clauses copies : List (Option (List (Signed ℕ)))) (pairs : List (Option WatchedPair)) (entries : List Entry) (n : ℕ) → AreCopies clauses copies pairs → IsConflict copies entries n → IsConflict clauses entries n
clauses_conflict clauses copies pairs entries n a x = (x.0, a.there n x.0 x.1, x.2)

-- a clause that begins to watch is copied
pub copied : (clauses copies copies' : List (Option (List (Signed ℕ)))) (pairs : List (Option WatchedPair)) (n : ℕ) (p : WatchedPair) (c : List (Signed ℕ)) → AreCopies clauses copies pairs → clause_number clauses n ≡ Some c
    → clause_number copies' n ≡ Some c → ((k : ℕ) → k ≢ n → clause_number copies' k ≡ clause_number copies k) → AreCopies clauses copies' (set pairs n (Some p))
copied clauses copies copies' pairs n p c a at here others = record {
  there = λ m d e. elim (cases_eq m n) [
    | inl same ↦ ap (clause_number clauses) same ∙ at ∙ sym here ∙ ap (clause_number copies') (sym same) ∙ e
    | inr other ↦ a.there m d (sym (others m other) ∙ e)
  ];
  watching = λ m q e. elim (cases_eq m n) [
    | inl same ↦ ap (clause_number copies') same ∙ here ∙ sym at ∙ ap (clause_number clauses) (sym same)
    | inr other ↦ others m other ∙ a.watching m q (sym (pair_at_other pairs n m (Some p) other) ∙ e)
  ];
}

-- a clause more, of which there is no copy yet
pub copies_added : (before after copies : List (Option (List (Signed ℕ)))) (pairs pairs' : List (Option WatchedPair)) (n : ℕ) (c : List (Signed ℕ)) → AddsClause before after c n → ((m : ℕ) (p : WatchedPair) → pair_at pairs' m ≡ Some p → (m ≢ n) × (pair_at pairs m ≡ Some p))
    → AreCopies before copies pairs → AreCopies after copies pairs'
copies_added before after copies pairs pairs' n c adds others a = record {
  there = λ m d e.
      let old = a.there m d e in
      adds.others m (λ same. none-some d (sym adds.free ∙ ap (clause_number before) (sym same) ∙ old)) ∙ old;
  watching = λ m p e. let o = others m p e in a.watching m p o.1 ∙ sym (adds.others m o.0);
}

-- the clause goes with its copy
pub copies_removed : (before after copies copies' : List (Option (List (Signed ℕ)))) (pairs pairs' : List (Option WatchedPair)) (n : ℕ) → RemovesClause before after n → RemovesClause copies copies' n → ((m : ℕ) (p : WatchedPair) → pair_at pairs' m ≡ Some p → (m ≢ n) × (pair_at pairs m ≡ Some p))
    → AreCopies before copies pairs → AreCopies after copies' pairs'
copies_removed before after copies copies' pairs pairs' n removes goes others a = record {
  there = λ m d e.
      let apart : m ≢ n = λ same. none-some d (sym goes.removed ∙ ap (clause_number copies') (sym same) ∙ e) in
      removes.others m apart ∙ a.there m d (sym (goes.others m apart) ∙ e);
  watching = λ m p e. let o = others m p e in goes.others m o.0 ∙ a.watching m p o.1 ∙ sym (removes.others m o.0);
}
