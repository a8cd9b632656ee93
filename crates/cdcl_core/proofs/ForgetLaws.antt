-- A learned clause is forgotten.
use Rattle.std.proofs.Common.{◌≡◌, ◌≢◌, ℕ, ◌+◌, ◌<◌, ◌^◌, inl, inr, List, length, take, true, Bor, Option, Some, None, refl, sym, ap, ◌∙◌, subst, arith}
use Rattle.std.specs.Prelude.{All, Contains, slice_get, is_some, option_copied}
use Rattle.std.proofs.lemmas.List.Elements.{All-contains, All-weaker}
use Rattle.std.proofs.lemmas.Option.{none-some, same_Some}
use Rattle.std.proofs.lemmas.Bool.{cases_eq, false≢true}
use Rattle.inst_logic.specs.declared.signed.Signed.{Signed}
use Rattle.prop_logic.specs.declared.literal.Hint.TheVariants.{Added}
use Rattle.prop_logic.specs.declared.solver.Answer.{Answer}
use Rattle.prop_logic.specs.Solving.{IsAnswer}
use Rattle.prop_logic.proofs.ListLaws.{All-from_contained, slice_get-Contains, Contains-slice_get}
use Rattle.cdcl_trail.specs.declared.entry.Entry.{Entry}
use Rattle.cdcl_trail.specs.Attached.{AreAttached}
use Rattle.cdcl_trail.specs.Clauses.{clause_number, RemovesClause}
use Rattle.cdcl_trail.specs.Trail.{Trail, IsTrail, reason_of, literals_of}
use Rattle.cdcl_core.specs.declared.learned.Learned.{Learned}
use Rattle.cdcl_core.specs.declared.log.Log.{Log}
use Rattle.cdcl_core.specs.declared.search.Search.{Search}
use Rattle.cdcl_core.specs.Log.{IsFound, IsLog}
use Rattle.cdcl_core.specs.Search.{AreGiven, IsKept, IsTrueUpTo, IsSearch, IsSameButClauses, Continues, weight}
use Rattle.cdcl_core.proofs.EntryLaws.{reason_found}
use Rattle.cdcl_core.proofs.PhaseLaws.{phases_same}

still_there : (old new : List (Option (List (Signed ℕ)))) (n k : ℕ) (o : Option (List (Signed ℕ))) → RemovesClause old new n → (k ≡ n → ⊥) → clause_number old k ≡ o → clause_number new k ≡ o
still_there old new n k o r other e = r.others k other ∙ e

was_there : (old new : List (Option (List (Signed ℕ)))) (n k : ℕ) (c : List (Signed ℕ)) → RemovesClause old new n → clause_number new k ≡ Some c → clause_number old k ≡ Some c
was_there old new n k c r e =
    elim (cases_eq k n) [
      | inl same ↦ absurd (none-some c (sym r.removed ∙ ap (clause_number new) (sym same) ∙ e))
      | inr other ↦ sym (r.others k other) ∙ e
    ]

log_forgot : (atoms : ℕ) (old new : List (Option (List (Signed ℕ)))) (n : ℕ) (log : Log) → RemovesClause old new n → ((i : ℕ) → slice_get log.names n ≡ Some (Added i) → ⊥) → IsLog atoms old log → IsLog atoms new log
log_forgot atoms old new n log r step v = record {
  named = λ k c e. v.named k c (was_there old new n k c r e);
  held = All-weaker (IsFound old log.names) (IsFound new log.names) (λ c f. (f.0, f.1, still_there old new n f.0 (Some c) r (λ same. step f.1 (ap (slice_get log.names) (sym same) ∙ f.3)) f.2, f.3)) log.added v.held;
  below = v.below;
  good = v.good;
}

given_forgot : (old new : List (Option (List (Signed ℕ)))) (n : ℕ) (es : List Entry) → RemovesClause old new n → All (λ e. e.reason ≢ Some n) es → AreGiven old es → AreGiven new es
given_forgot old new n es r free g = λ k m e at reason.
    let f = g k m e at reason in
    let other : (m ≡ n → ⊥) = λ same. All-contains (λ x. x.reason ≢ Some n) es e free (Contains-slice_get es k e at) (reason ∙ ap Some same) in
    (f.0, still_there old new n m (Some f.0) r other f.1, f.2)

-- a clause with no literal that it gave is the reason of none
pub no_reason : (t : Trail) (clauses : List (Option (List (Signed ℕ)))) (c : List (Signed ℕ)) (n : ℕ) → IsTrail t → AreGiven clauses t.entries → clause_number clauses n ≡ Some c → All (λ l. reason_of t.entries l.atom ≢ Some n) c → All (λ e. e.reason ≢ Some n) t.entries
no_reason t clauses c n v g here all = All-from_contained (λ e. e.reason ≢ Some n) t.entries (λ e inside reason.
    let at = slice_get-Contains t.entries e inside in
    let f = g at.0 n e at.1 reason in
    let same : f.0 ≡ c = same_Some f.0 c (sym f.1 ∙ here) in
    All-contains (λ l. reason_of t.entries l.atom ≢ Some n) c e.lit all (subst (λ x. Contains x e.lit) same f.2.here) (reason_found t e e.lit.atom v inside refl ∙ reason))

pub forgot : (old new : Search) (n : ℕ) → RemovesClause old.clauses new.clauses n → ((i : ℕ) → slice_get old.log.names n ≡ Some (Added i) → ⊥) → All (λ e. e.reason ≢ Some n) old.trail.trail.entries
    → new.trail.trail ≡ old.trail.trail → ((before after : List (Option (List (Signed ℕ)))) → RemovesClause before after n → AreAttached old.trail before → AreAttached new.trail after)
    → new.log ≡ old.log → new.seen ≡ old.seen → new.phases ≡ old.phases → IsKept old → IsKept new
forgot old new n r step free trail attached log marks phases k =
    let atoms : new.trail.trail.atoms ≡ old.trail.trail.atoms = ap (λ x. x.atoms) trail in
    record {
      log = subst (λ m. IsLog m new.clauses new.log) (sym atoms) (subst (IsLog old.trail.trail.atoms new.clauses) (sym log) (log_forgot old.trail.trail.atoms old.clauses new.clauses n old.log r step k.log));
      given = subst (AreGiven new.clauses) (sym (ap (λ x. x.entries) trail)) (given_forgot old.clauses new.clauses n old.trail.trail.entries r free k.given);
      attached = attached old.clauses new.clauses r k.attached;
      seen = ap length marks ∙ k.seen ∙ sym atoms;
      phases = phases_same old.trail.trail new.trail.trail old.phases new.phases trail phases k.phases;
    }

pub found_clause : (r : Option (Bor (List (Signed ℕ)))) (clauses : List (Option (List (Signed ℕ)))) (n : ℕ) → is_some r ≡ true → option_copied r ≡ clause_number clauses n → (c : List (Signed ℕ)) × (clause_number clauses n ≡ Some c)
found_clause None clauses n some e = absurd (false≢true some)
found_clause (Some b) clauses n some e = (b.now, sym e)

-- nothing rests on the list of the learned clauses
pub same_learned : (s : Search) (learned : Learned) → IsKept s → IsSameButClauses s (record s { learned = learned })
same_learned s learned k = record {
  kept = record { log = k.log; given = k.given; attached = k.attached; seen = k.seen; phases = k.phases };
  trail = refl;
  log = refl;
  assumed = refl;
  checked = refl;
}

pub same_both : (first old new : Search) → IsSameButClauses first old → IsSameButClauses old new → IsSameButClauses first new
same_both first old new a b = record {
  kept = b.kept;
  trail = b.trail ∙ a.trail;
  log = b.log ∙ a.log;
  assumed = b.assumed ∙ a.assumed;
  checked = b.checked ∙ a.checked;
}

pub same_search : (assumptions : List (Signed ℕ)) (old new : Search) → IsSameButClauses old new → IsSearch assumptions old → IsSearch assumptions new
same_search assumptions old new b s =
    let entries : new.trail.trail.entries ≡ old.trail.trail.entries = ap (λ t. t.entries) b.trail in
    let level : new.trail.trail.level ≡ old.trail.trail.level = ap (λ t. t.level) b.trail in
    record {
      kept = b.kept;
      low = omega (arith, s.low, b.assumed, level);
      decisions = λ e c chosen h. s.decisions e (subst (λ es. Contains es e) entries c) chosen (omega (arith, h, b.assumed));
      all_true = λ h. subst (λ es. All (IsTrueUpTo es new.assumed) assumptions) (sym entries) (subst (λ n. All (IsTrueUpTo old.trail.trail.entries n) assumptions) (sym b.assumed) (s.all_true (omega (arith, h, b.assumed, level))));
      checked = subst (λ es. All (Contains (literals_of es)) (take new.checked assumptions)) (sym entries) (subst (λ n. All (Contains (literals_of old.trail.trail.entries)) (take n assumptions)) (sym b.checked) s.checked);
    }

-- first some are forgotten, and then a step of the search
pub continues_less : (assumptions : List (Signed ℕ)) (first old new : Search) (found : Option Answer) → IsSameButClauses first old → Continues assumptions old new found → Continues assumptions first new found
continues_less assumptions first old new None b c = (
  c.0,
  record {
    same = record { atoms = c.1.same.atoms ∙ ap (λ t. t.atoms) b.trail; added = c.1.same.added ∙ ap (λ l. l.added) b.log };
    within = subst (λ t. weight t.atoms t.entries < (t.atoms + 1) ^ (t.atoms + 1)) b.trail c.1.within;
    risen = subst (λ t. weight t.atoms t.entries < weight t.atoms new.trail.trail.entries) b.trail c.1.risen;
  },
)
continues_less assumptions first old new (Some answer) b c = record {
  kept = c.kept;
  same = record { atoms = c.same.atoms ∙ ap (λ t. t.atoms) b.trail; added = c.same.added ∙ ap (λ l. l.added) b.log };
  answered = subst (λ n. IsAnswer n first.log.added assumptions answer) (ap (λ t. t.atoms) b.trail) (subst (λ added. IsAnswer old.trail.trail.atoms added assumptions answer) (ap (λ l. l.added) b.log) c.answered);
}
