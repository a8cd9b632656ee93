-- How the visits of a list go on.
use Rattle.std.proofs.Common.{◌≡◌, ℕ, ◌+◌, ◌<◌, ◌≤◌, List, length, take, get_or, Option, sym, ap, ◌∙◌, subst, arith}
use Rattle.std.specs.Prelude.{All, Contains}
use Rattle.std.proofs.lemmas.List.{take-map, length-map}
use Rattle.std.proofs.lemmas.List.Elements.{All-contains, All-weaker}
use Rattle.std.proofs.lemmas.Option.{slice_get-get_or}
use Rattle.inst_logic.specs.declared.signed.Signed.{Signed}
use Rattle.inst_logic.specs.Signed.{complement}
use Rattle.prop_logic.proofs.ListLaws.{all_more, Contains-take}
use Rattle.cdcl_trail.specs.Propagation.{IsFalseIn}
use Rattle.cdcl_trail.specs.Running.{numbers_at, IsRunning, Runs, Visits, IsListRun}
use Rattle.cdcl_trail.specs.Trail.{literals_of}
use Rattle.cdcl_trail.specs.Values.{entries_of}
use Rattle.cdcl_trail.specs.Watch.{slot_of, list_at}
use Rattle.cdcl_trail.specs.Watching.{IsTrueAt}
use Rattle.cdcl_trail.specs.declared.entry.Entry.{Entry}
use Rattle.cdcl_trail.specs.declared.values.Values.{Values}
use Rattle.cdcl_trail.specs.declared.visit.Visit.TheVariants.{Kept, Moved}
use Rattle.cdcl_trail.specs.declared.watch.WatchedPair.{WatchedPair}
use Rattle.cdcl_trail.specs.declared.watch.Watch.{Watch}
use Rattle.cdcl_trail.proofs.ScanLaws.{all_past}
use Rattle.cdcl_trail.proofs.VisitLaws.{runs_on, runs_none}

-- what is true stays so where entries are added
pub more_true : (es more : List Entry) (l : Signed ℕ) → take (length es) more ≡ es → Contains (literals_of es) l → Contains (literals_of more) l
more_true es more l e c = Contains-take (literals_of more) (length es) l (subst (λ xs. Contains xs l) (sym (take-map (λ (x : Entry). x.lit) (length es) more ∙ ap literals_of e)) c)

pub still_true : (clauses : List (Option (List (Signed ℕ)))) (es more : List Entry) (n : ℕ) → take (length es) more ≡ es → IsTrueAt clauses es n → IsTrueAt clauses more n
still_true clauses es more n e h c at = let t = h c at in (t.0, t.1, more_true es more t.0 e t.2)

same_size : (clauses : List (Option (List (Signed ℕ)))) (level : ℕ) (v v' : Values) (lists lists' : List (List Watch)) (pairs pairs' : List (Option WatchedPair)) → IsRunning clauses level v lists pairs → IsRunning clauses level v' lists' pairs' → Runs clauses level v pairs v' pairs'
    → length lists' ≡ length lists
same_size clauses level v v' lists lists' pairs pairs' a b r = b.slots ∙ ap (λ n. n + n) r.added.atoms ∙ sym a.slots

pub list_run_begins : (clauses : List (Option (List (Signed ℕ)))) (level : ℕ) (l : Signed ℕ) (v : Values) (lists : List (List Watch)) (pairs : List (Option WatchedPair)) → IsRunning clauses level v lists pairs → IsFalseIn (entries_of v) l → slot_of l < length lists
    → IsListRun clauses level l 0 v pairs v lists pairs
list_run_begins clauses level l v lists pairs r f s = record { running = r; runs = runs_none clauses level v pairs; is_false = f; slot = s; seen = λ k d h. absurd (omega (arith, h)) }

-- what does not depend on the answer
goes_on : (clauses : List (Option (List (Signed ℕ)))) (level : ℕ) (l : Signed ℕ) (place place' : ℕ) (v v' v'' : Values) (lists' lists'' : List (List Watch)) (pairs pairs' pairs'' : List (Option WatchedPair)) → IsListRun clauses level l place v pairs v' lists' pairs'
    → IsRunning clauses level v'' lists'' pairs'' → Runs clauses level v' pairs' v'' pairs'' → All (IsTrueAt clauses (entries_of v'')) (take place' (numbers_at lists'' (slot_of l))) → IsListRun clauses level l place' v pairs v'' lists'' pairs''
goes_on clauses level l place place' v v' v'' lists' lists'' pairs pairs' pairs'' run next step seen = record {
  running = next;
  runs = runs_on clauses level v v' v'' pairs pairs' pairs'' run.runs step;
  is_false = more_true (entries_of v') (entries_of v'') (complement l) step.added.kept run.is_false;
  slot = subst (λ n. slot_of l < n) (sym (same_size clauses level v' v'' lists' lists'' pairs' pairs'' run.running next step)) run.slot;
  seen = seen;
}

pub list_run_kept : (clauses : List (Option (List (Signed ℕ)))) (level : ℕ) (l : Signed ℕ) (place : ℕ) (v v' v'' : Values) (lists' lists'' : List (List Watch)) (pairs pairs' pairs'' : List (Option WatchedPair)) → IsListRun clauses level l place v pairs v' lists' pairs'
    → place < length (list_at lists' (slot_of l)) → Visits clauses level l place v' lists' pairs' v'' lists'' pairs'' Kept → IsListRun clauses level l (place + 1) v pairs v'' lists'' pairs''
list_run_kept clauses level l place v v' v'' lists' lists'' pairs pairs' pairs'' run h visits =
    let old = numbers_at lists' (slot_of l) in
    let inside : place < length old = omega (arith, h, length-map (list_at lists' (slot_of l)) (λ (w : Watch). w.number)) in
    let before : All (IsTrueAt clauses (entries_of v'')) (take place old) =
    All-weaker (IsTrueAt clauses (entries_of v')) (IsTrueAt clauses (entries_of v'')) (λ n t. still_true clauses (entries_of v') (entries_of v'') n visits.runs.added.kept t) (take place old) run.seen in
    let here : IsTrueAt clauses (entries_of v'') (get_or old place 0) = visits.visited.1 (get_or old place 0) (slice_get-get_or old place 0 inside) in
    let all : All (IsTrueAt clauses (entries_of v'')) (take (place + 1) old) = all_more (IsTrueAt clauses (entries_of v'')) old place 0 inside before here in
    goes_on clauses level l place (place + 1) v v' v'' lists' lists'' pairs pairs' pairs'' run visits.running visits.runs (subst (λ ns. All (IsTrueAt clauses (entries_of v'')) (take (place + 1) ns)) (sym visits.visited.0) all)

pub list_run_moved : (clauses : List (Option (List (Signed ℕ)))) (level : ℕ) (l : Signed ℕ) (place : ℕ) (v v' v'' : Values) (lists' lists'' : List (List Watch)) (pairs pairs' pairs'' : List (Option WatchedPair)) → IsListRun clauses level l place v pairs v' lists' pairs'
    → Visits clauses level l place v' lists' pairs' v'' lists'' pairs'' Moved → IsListRun clauses level l place v pairs v'' lists'' pairs''
list_run_moved clauses level l place v v' v'' lists' lists'' pairs pairs' pairs'' run visits =
    let old = numbers_at lists' (slot_of l) in
    let before : All (IsTrueAt clauses (entries_of v'')) (take place old) =
    All-weaker (IsTrueAt clauses (entries_of v')) (IsTrueAt clauses (entries_of v'')) (λ n t. still_true clauses (entries_of v') (entries_of v'') n visits.runs.added.kept t) (take place old) run.seen in
    goes_on clauses level l place place v v' v'' lists' lists'' pairs pairs' pairs'' run visits.running visits.runs (subst (All (IsTrueAt clauses (entries_of v''))) (sym visits.visited.0) before)

pub shorter_list : (clauses : List (Option (List (Signed ℕ)))) (level : ℕ) (l : Signed ℕ) (place : ℕ) (v v' : Values) (lists lists' : List (List Watch)) (pairs pairs' : List (Option WatchedPair)) → Visits clauses level l place v lists pairs v' lists' pairs' Moved
    → length (list_at lists' (slot_of l)) + 1 ≡ length (list_at lists (slot_of l))
shorter_list clauses level l place v v' lists lists' pairs pairs' visits =
    omega (arith, visits.visited.1, length-map (list_at lists' (slot_of l)) (λ (w : Watch). w.number), length-map (list_at lists (slot_of l)) (λ (w : Watch). w.number))

pub same_list : (clauses : List (Option (List (Signed ℕ)))) (level : ℕ) (l : Signed ℕ) (place : ℕ) (v v' : Values) (lists lists' : List (List Watch)) (pairs pairs' : List (Option WatchedPair)) → Visits clauses level l place v lists pairs v' lists' pairs' Kept
    → length (list_at lists' (slot_of l)) ≡ length (list_at lists (slot_of l))
same_list clauses level l place v v' lists lists' pairs pairs' visits =
    sym (length-map (list_at lists' (slot_of l)) (λ (w : Watch). w.number)) ∙ ap length visits.visited.0 ∙ length-map (list_at lists (slot_of l)) (λ (w : Watch). w.number)

pub list_run_ends : (clauses : List (Option (List (Signed ℕ)))) (level : ℕ) (l : Signed ℕ) (place : ℕ) (v v' : Values) (lists' : List (List Watch)) (pairs pairs' : List (Option WatchedPair)) → IsListRun clauses level l place v pairs v' lists' pairs'
    → length (list_at lists' (slot_of l)) ≤ place → (n : ℕ) → Contains (numbers_at lists' (slot_of l)) n → IsTrueAt clauses (entries_of v') n
list_run_ends clauses level l place v v' lists' pairs pairs' run h n c =
    let ns = numbers_at lists' (slot_of l) in
    let past : length ns ≤ place = omega (arith, h, length-map (list_at lists' (slot_of l)) (λ (w : Watch). w.number)) in
    All-contains (IsTrueAt clauses (entries_of v')) ns n (all_past (IsTrueAt clauses (entries_of v')) ns place past run.seen) c
