-- What is kept from one question to the next.
use Rattle.std.proofs.Common.{◌≡◌, ℕ, suc, zero, ◌+◌, ◌-◌, ◌^◌, ◌<◌, Bool, false, List, [], ◌∷◌, ◌++◌, length, map, take, Option, Some, None, refl, sym, ap, ◌∙◌, subst, arith}
use Rattle.std.specs.Prelude.{All, Contains, slice_get}
use Rattle.std.proofs.lemmas.List.{length_push}
use Rattle.std.proofs.lemmas.List.Elements.{All-nil, All-contains, All-weaker}
use Rattle.std.proofs.lemmas.Option.{none-some}
use Rattle.inst_logic.specs.declared.signed.Signed.{Signed}
use Rattle.inst_logic.specs.Derivations.{IsShown}
use Rattle.prop_logic.specs.declared.literal.Hint.{Hint}
use Rattle.prop_logic.specs.declared.literal.Hint.TheVariants.{Added, Step as Earlier}
use Rattle.prop_logic.specs.declared.literal.Step.{Step}
use Rattle.prop_logic.specs.Literal.{cited, AtomsBelow}
use Rattle.prop_logic.specs.Analysis.{ClosesAll}
use Rattle.prop_logic.specs.Search.{AreGood}
use Rattle.prop_logic.specs.declared.solver.Answer.{Answer}
use Rattle.prop_logic.specs.Solving.{IsAnswer}
use Rattle.prop_logic.proofs.SearchLaws.{good_none}
use Rattle.cdcl_trail.specs.declared.entry.Entry.{Entry}
use Rattle.cdcl_trail.specs.Attached.{WatchedTrail, AreAttached}
use Rattle.cdcl_trail.specs.Clauses.{clause_number, AddsClause}
use Rattle.cdcl_trail.specs.Trail.{Trail, IsTrail, IsDecision, literals_of, with_atom, back_at}
use Rattle.cdcl_trail.specs.Propagation.{Propagates}
use Rattle.cdcl_core.specs.declared.search.Search.{Search}
use Rattle.cdcl_core.specs.Log.{PutsName, IsFound, IsLog}
use Rattle.cdcl_core.specs.Phases.{ArePhases}
use Rattle.cdcl_core.specs.Search.{AreGiven, IsKept, IsTrueUpTo, IsSearch, weight, IsSameProblem, Advances, Ends, Continues, IsProbed}
use Rattle.cdcl_core.proofs.EntryLaws.{of_literals, to_literals}
use Rattle.cdcl_core.proofs.LogLaws.{log_atom, log_added, log_step, log_learned}
use Rattle.cdcl_core.proofs.PhaseLaws.{no_phases, phases_same, phases_kept, phases_atom}
use Rattle.cdcl_core.proofs.SearchLaws.{given_up_to, given_propagated, given_clauses, in_new, decision_old, weight_kept, of_up_to}

no_clause : (n : ℕ) (c : List (Signed ℕ)) → clause_number [] n ≡ Some c → ⊥
no_clause zero c e = none-some c e
no_clause (suc n) c e = none-some c e

none_at : (n : ℕ) → clause_number [] n ≡ None
none_at zero = refl
none_at (suc n) = refl

pub new_kept : (s : Search) → s.log.added ≡ [] → s.log.steps ≡ [] → s.clauses ≡ [] → s.trail.trail.entries ≡ [] → s.trail.trail.atoms ≡ 0 → s.seen ≡ [] → s.phases.values ≡ [] → s.phases.saved ≡ 0 → ((clauses : List (Option (List (Signed ℕ)))) → ((n : ℕ) → clause_number clauses n ≡ None) → AreAttached s.trail clauses) → IsKept s
new_kept s added steps clauses entries atoms marks values saved attached = record {
  attached = attached s.clauses (λ n. subst (λ x. clause_number x n ≡ None) (sym clauses) (none_at n));
  log = record {
    named = λ n c e. absurd (no_clause n c (ap (λ x. clause_number x n) (sym clauses) ∙ e));
    held = subst (All (IsFound s.clauses s.log.names)) (sym added) (All-nil (IsFound s.clauses s.log.names));
    below = subst (All (AtomsBelow s.trail.trail.atoms)) (sym added) (All-nil (AtomsBelow s.trail.trail.atoms));
    good = subst (λ x. AreGood s.log.added s.trail.trail.atoms x) (sym steps) (good_none s.log.added s.trail.trail.atoms);
  };
  given = λ k n e at reason. absurd (none-some e (ap (λ x. slice_get x k) (sym entries) ∙ at));
  seen = ap length marks ∙ sym atoms;
  phases = no_phases s.trail.trail s.phases values saved atoms;
}

attached_same : (old new : Search) → new.trail ≡ old.trail → new.clauses ≡ old.clauses → AreAttached old.trail old.clauses → AreAttached new.trail new.clauses
attached_same old new trail clauses a = subst (λ t. AreAttached t new.clauses) (sym trail) (subst (AreAttached old.trail) (sym clauses) a)

-- other atoms are seen, with other phases and places to look at
pub kept_same : (old new : Search) → new.log ≡ old.log → new.clauses ≡ old.clauses → new.trail ≡ old.trail → length new.seen ≡ length old.seen → (ArePhases old.trail.trail old.phases → ArePhases new.trail.trail new.phases) → IsKept old → IsKept new
kept_same old new log clauses watched marks phases k =
    let trail = ap (λ x. x.trail) watched in
    let atoms = ap (λ x. x.atoms) trail in
    record {
      attached = attached_same old new watched clauses k.attached;
      log = subst (λ n. IsLog n new.clauses new.log) (sym atoms) (subst (λ x. IsLog old.trail.trail.atoms x new.log) (sym clauses) (subst (IsLog old.trail.trail.atoms old.clauses) (sym log) k.log));
      given = subst (λ x. AreGiven x new.trail.trail.entries) (sym clauses) (subst (AreGiven old.clauses) (sym (ap (λ x. x.entries) trail)) k.given);
      seen = marks ∙ k.seen ∙ sym atoms;
      phases = phases k.phases;
    }

pub atom_kept : (old new : Search) (first : Bool) → new.trail.trail ≡ with_atom old.trail.trail → ((clauses : List (Option (List (Signed ℕ)))) → AreAttached old.trail clauses → AreAttached new.trail clauses) → new.clauses ≡ old.clauses → new.log ≡ old.log → new.seen ≡ old.seen ++ false ∷ [] → new.phases.values ≡ old.phases.values ++ first ∷ [] → new.phases.saved ≡ old.phases.saved → IsKept old → IsKept new
atom_kept old new first trail attached clauses log marks values saved k =
    let atoms : new.trail.trail.atoms ≡ old.trail.trail.atoms + 1 = ap (λ x. x.atoms) trail in
    record {
      attached = subst (AreAttached new.trail) (sym clauses) (attached old.clauses k.attached);
      log = subst (λ n. IsLog n new.clauses new.log) (sym atoms) (subst (λ x. IsLog (old.trail.trail.atoms + 1) x new.log) (sym clauses) (subst (IsLog (old.trail.trail.atoms + 1) old.clauses) (sym log) (log_atom old.trail.trail.atoms old.clauses old.log k.log)));
      given = subst (λ x. AreGiven x new.trail.trail.entries) (sym clauses) (subst (AreGiven old.clauses) (sym (ap (λ x. x.entries) trail)) k.given);
      seen = omega (arith, ap length marks, length_push old.seen false, k.seen, atoms);
      phases = phases_atom old.trail.trail new.trail.trail old.phases new.phases first trail values saved k.phases;
    }

pub added_kept : (old new : Search) (clause : List (Signed ℕ)) (key : ℕ) → AtomsBelow old.trail.trail.atoms clause → AddsClause old.clauses new.clauses clause key → new.log.added ≡ old.log.added ++ clause ∷ [] → new.log.steps ≡ old.log.steps → PutsName old.log.names new.log.names key (Added (length new.log.added))
    → new.trail.trail ≡ old.trail.trail → ((before after : List (Option (List (Signed ℕ)))) (c : List (Signed ℕ)) → AddsClause before after c key → AreAttached old.trail before → AreAttached new.trail after) → new.seen ≡ old.seen → new.phases ≡ old.phases → IsKept old → IsKept new
added_kept old new clause key low a grown same p trail attached marks phases k =
    let atoms = ap (λ x. x.atoms) trail in
    record {
      attached = attached old.clauses new.clauses clause a k.attached;
      log = subst (λ n. IsLog n new.clauses new.log) (sym atoms) (log_added old.trail.trail.atoms old.clauses new.clauses clause key old.log new.log k.log low a grown same p);
      given = subst (AreGiven new.clauses) (sym (ap (λ x. x.entries) trail)) (given_clauses old.clauses new.clauses clause key old.trail.trail.entries a k.given);
      seen = ap length marks ∙ k.seen ∙ sym atoms;
      phases = phases_same old.trail.trail new.trail.trail old.phases new.phases trail phases k.phases;
    }

pub back_kept : (old new : Search) (level : ℕ) → IsTrail old.trail.trail → new.trail.trail ≡ back_at old.trail.trail level → ((clauses : List (Option (List (Signed ℕ)))) → AreAttached old.trail clauses → AreAttached new.trail clauses) → new.clauses ≡ old.clauses → new.log ≡ old.log → new.seen ≡ old.seen → ArePhases new.trail.trail new.phases → IsKept old → IsKept new
back_kept old new level v trail attached clauses log marks phases k =
    let atoms : new.trail.trail.atoms ≡ old.trail.trail.atoms = ap (λ x. x.atoms) trail in
    record {
      attached = subst (AreAttached new.trail) (sym clauses) (attached old.clauses k.attached);
      log = subst (λ n. IsLog n new.clauses new.log) (sym atoms) (subst (λ x. IsLog old.trail.trail.atoms x new.log) (sym clauses) (subst (IsLog old.trail.trail.atoms old.clauses) (sym log) k.log));
      given = subst (λ x. AreGiven x new.trail.trail.entries) (sym clauses) (subst (AreGiven old.clauses) (sym (ap (λ x. x.entries) trail)) (given_up_to old.clauses old.trail.trail level v k.given));
      seen = ap length marks ∙ k.seen ∙ sym atoms;
      phases = phases;
    }

pub closes_shown : (F : List (Signed ℕ)) (hints : List (Option (List (Signed ℕ)))) → ClosesAll F hints → IsShown F hints
closes_shown F [] c = absurd c
closes_shown F (h ∷ hints) c = c

pub closes_hinted : (added : List (List (Signed ℕ))) (steps : List Step) (F : List (Signed ℕ)) (hints : List Hint) → ClosesAll F (map (cited added steps) hints) → hints ≡ [] → ⊥
closes_hinted added steps F [] c e = c
closes_hinted added steps F (h ∷ hints) c e = cc

pub step_kept : (old new : Search) (clause : List (Signed ℕ)) (hints : List Hint) → AtomsBelow old.trail.trail.atoms clause → ClosesAll clause (map (cited old.log.added old.log.steps) hints) → new.log.added ≡ old.log.added → new.log.steps ≡ old.log.steps ++ (record { clause = clause; hints = hints }) ∷ [] → new.log.names ≡ old.log.names
    → new.trail ≡ old.trail → new.clauses ≡ old.clauses → new.seen ≡ old.seen → new.phases ≡ old.phases → IsKept old → IsKept new
step_kept old new clause hints low closes added steps names watched clauses marks phases k =
    let trail = ap (λ x. x.trail) watched in
    let s : Step = record { clause = clause; hints = hints } in
    let atoms = ap (λ x. x.atoms) trail in
    record {
      attached = attached_same old new watched clauses k.attached;
      log = subst (λ n. IsLog n new.clauses new.log) (sym atoms) (subst (λ x. IsLog old.trail.trail.atoms x new.log) (sym clauses)
          (log_step old.trail.trail.atoms old.clauses s old.log new.log k.log (closes_shown clause (map (cited old.log.added old.log.steps) hints) closes) (closes_hinted old.log.added old.log.steps clause hints closes) low added steps names));
      given = subst (λ x. AreGiven x new.trail.trail.entries) (sym clauses) (subst (AreGiven old.clauses) (sym (ap (λ x. x.entries) trail)) k.given);
      seen = ap length marks ∙ k.seen ∙ sym atoms;
      phases = phases_same old.trail.trail new.trail.trail old.phases new.phases trail phases k.phases;
    }

pub use_kept : (old new : Search) (key : ℕ) (before : List Step) (s : Step) → old.log.steps ≡ before ++ s ∷ [] → AddsClause old.clauses new.clauses s.clause key → new.log.added ≡ old.log.added → new.log.steps ≡ old.log.steps → PutsName old.log.names new.log.names key (Earlier (length new.log.steps))
    → new.trail.trail ≡ old.trail.trail → ((before after : List (Option (List (Signed ℕ)))) (c : List (Signed ℕ)) → AddsClause before after c key → AreAttached old.trail before → AreAttached new.trail after) → new.seen ≡ old.seen → new.phases ≡ old.phases → IsKept old → IsKept new
use_kept old new key before s ends a added steps p trail attached marks phases k =
    let atoms = ap (λ x. x.atoms) trail in
    record {
      attached = attached old.clauses new.clauses s.clause a k.attached;
      log = subst (λ n. IsLog n new.clauses new.log) (sym atoms) (log_learned old.trail.trail.atoms old.clauses new.clauses key s before old.log new.log k.log ends a added steps p);
      given = subst (AreGiven new.clauses) (sym (ap (λ x. x.entries) trail)) (given_clauses old.clauses new.clauses s.clause key old.trail.trail.entries a k.given);
      seen = ap length marks ∙ k.seen ∙ sym atoms;
      phases = phases_same old.trail.trail new.trail.trail old.phases new.phases trail phases k.phases;
    }

-- propagation keeps the search
pub propagated_kept : (old : Search) (t : WatchedTrail) → Propagates old.clauses old.trail.trail t.trail → AreAttached t old.clauses → IsKept old → IsKept (record old { trail = t })
propagated_kept old t p attached k = record {
  attached = attached;
  log = subst (λ n. IsLog n old.clauses old.log) (sym p.atoms) k.log;
  given = given_propagated old.clauses old.trail.trail t.trail p k.given;
  seen = k.seen ∙ sym p.atoms;
  phases = phases_kept old.trail.trail t.trail old.phases p.atoms p.kept k.phases;
}

literal_new : (old new : List Entry) (l : Signed ℕ) → take (length old) new ≡ old → Contains (literals_of old) l → Contains (literals_of new) l
literal_new old new l kept c =
    let f = of_literals old l c in
    subst (Contains (literals_of new)) (sym f.2) (to_literals new f.0 (in_new old new f.0 kept f.1))

pub propagated : (assumptions : List (Signed ℕ)) (old : Search) (t : WatchedTrail) → Propagates old.clauses old.trail.trail t.trail → AreAttached t old.clauses → IsSearch assumptions old → IsSearch assumptions (record old { trail = t })
propagated assumptions old t p attached s = record {
  kept = propagated_kept old t p attached s.kept;
  low = omega (arith, s.low, p.level);
  decisions = λ e c chosen h. s.decisions e (decision_old old.clauses old.trail.trail t.trail e p c chosen) chosen h;
  all_true = λ h. All-weaker (IsTrueUpTo old.trail.trail.entries old.assumed) (IsTrueUpTo t.trail.entries old.assumed) (λ a f. (f.0, in_new old.trail.trail.entries t.trail.entries f.0 p.kept f.1, f.2, f.3)) assumptions (s.all_true (omega (arith, h, p.level)));
  checked = All-weaker (Contains (literals_of old.trail.trail.entries)) (Contains (literals_of t.trail.entries)) (λ a c. literal_new old.trail.trail.entries t.trail.entries a p.kept c) (take old.checked assumptions) s.checked;
}

-- first propagation, and then a step of the search
pub continues_from : (assumptions : List (Signed ℕ)) (old new : Search) (t : WatchedTrail) (found : Option Answer) → Propagates old.clauses old.trail.trail t.trail → Continues assumptions (record old { trail = t }) new found → Continues assumptions old new found
continues_from assumptions old new t None p c =
    let n = old.trail.trail.atoms in
    let more = weight_kept n old.trail.trail.entries t.trail.entries p.kept in
    let within = subst (λ k. weight k t.trail.entries < (k + 1) ^ (k + 1)) p.atoms c.1.within in
    let risen = subst (λ k. weight k t.trail.entries < weight k new.trail.trail.entries) p.atoms c.1.risen in (
      c.0,
      record {
        same = record { atoms = c.1.same.atoms ∙ p.atoms; added = c.1.same.added };
        within = omega (arith, more, within);
        risen = omega (arith, more, risen);
      },
    )
continues_from assumptions old new t (Some answer) p c = record {
  kept = c.kept;
  same = record { atoms = c.same.atoms ∙ p.atoms; added = c.same.added };
  answered = subst (λ n. IsAnswer n old.log.added assumptions answer) p.atoms c.answered;
}

-- an answer is the same where the problem is
pub ends_from : (assumptions : List (Signed ℕ)) (first old new : Search) (a : Answer) → IsSameProblem first old → Ends assumptions old new a → Ends assumptions first new a
ends_from assumptions first old new a s c = record {
  kept = c.kept;
  same = record { atoms = c.same.atoms ∙ s.atoms; added = c.same.added ∙ s.added };
  answered = subst (λ n. IsAnswer n first.log.added assumptions a) s.atoms (subst (λ xs. IsAnswer old.trail.trail.atoms xs assumptions a) s.added c.answered);
}

-- before the search: a step of it
pub probed_by : (assumptions : List (Signed ℕ)) (first old new : Search) (found : Option Answer) → IsSameProblem first old → Continues assumptions old new found → IsProbed assumptions first new found
probed_by assumptions first old new None s c = (c.0, record { atoms = c.1.same.atoms ∙ s.atoms; added = c.1.same.added ∙ s.added })
probed_by assumptions first old new (Some a) s c = ends_from assumptions first old new a s c

pub probed_from : (assumptions : List (Signed ℕ)) (first old new : Search) (found : Option Answer) → IsSameProblem first old → IsProbed assumptions old new found → IsProbed assumptions first new found
probed_from assumptions first old new None s c = (c.0, record { atoms = c.1.atoms ∙ s.atoms; added = c.1.added ∙ s.added })
probed_from assumptions first old new (Some a) s c = ends_from assumptions first old new a s c

pub not_probed : (assumptions : List (Signed ℕ)) (old new : Search) (found : Option Answer) → ((a : Answer) → found ≡ Some a → ⊥) → IsProbed assumptions old new found → IsSearch assumptions new × IsSameProblem old new
not_probed assumptions old new None goes c = c
not_probed assumptions old new (Some a) goes c = absurd (goes a refl)

-- the beginning: no decision is left
pub begun : (assumptions : List (Signed ℕ)) (old : Trail) (s : Search) → IsTrail old → s.trail.trail ≡ back_at old 0 → s.assumed ≡ 0 → s.checked ≡ 0 → IsKept s → IsSearch assumptions s
begun assumptions old s v trail assumed checked k = record {
  kept = k;
  low = omega (arith, assumed);
  decisions = λ e c chosen h.
      let f = of_up_to old.entries 0 e (subst (λ es. Contains es e) (ap (λ x. x.entries) trail) c) in
      let high = All-contains (λ x. IsDecision x → 0 < x.level) old.entries e v.above f.0 chosen in
      absurd (omega (arith, high, f.1));
  all_true = λ h. absurd (omega (arith, h, ap (λ x. x.level) trail));
  checked = subst (λ n. All (Contains (literals_of s.trail.trail.entries)) (take n assumptions)) (sym checked) (take_zero (Contains (literals_of s.trail.trail.entries)) assumptions);
}
  where
    take_zero : (P : Signed ℕ → Type 0) (xs : List (Signed ℕ)) → All P (take 0 xs)
    take_zero P [] = All-nil P
    take_zero P (x ∷ xs) = All-nil P

pub not_ended : (assumptions : List (Signed ℕ)) (old new : Search) (found : Option Answer) → ((a : Answer) → found ≡ Some a → ⊥) → Continues assumptions old new found → IsSearch assumptions new × Advances old new
not_ended assumptions old new None goes c = c
not_ended assumptions old new (Some a) goes c = absurd (goes a refl)

pub falls : (b w v : ℕ) → w < b → w < v → b - v < b - w
falls b w v h g = omega arith
