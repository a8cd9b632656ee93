-- One step of the search as its functions take it.
use Rattle.std.proofs.Common.{◌≡◌, ℕ, ◌<◌, ◌≤◌, Bool, true, false, inl, inr, List, [], ◌∷◌, ◌++◌, length, map, get_or, set, replicate, length-set, Option, Some, None, Result, Ok, Err, refl, sym, ap, ◌∙◌, subst, arith}
use Rattle.std.specs.Prelude.{All, Contains, is_some, IfOk}
use Rattle.std.proofs.lemmas.Bool.{true≢false}
use Rattle.std.proofs.lemmas.List.{length-replicate, get_or-set_same}
use Rattle.std.proofs.lemmas.List.Elements.{All-contains, All-weaker, All-map}
use Rattle.inst_logic.specs.declared.signed.Signed.{Signed}
use Rattle.inst_logic.specs.Signed.{complement}
use Rattle.inst_logic.specs.Derivations.{IsShown}
use Rattle.prop_logic.specs.declared.literal.Hint.{Hint}
use Rattle.prop_logic.specs.declared.literal.Step.{Step}
use Rattle.prop_logic.specs.declared.solver.Answer.{Answer}
use Rattle.prop_logic.specs.declared.solver.Answer.TheVariants.{Unsat}
use Rattle.prop_logic.specs.Literal.{cited, AtomsBelow}
use Rattle.prop_logic.specs.Solving.{IsAnswer, IsSubList, EndsWith}
use Rattle.prop_logic.specs.Analysis.{ClosesAll}
use Rattle.prop_logic.specs.Cut.{IsCutOf}
use Rattle.prop_logic.proofs.SearchLaws.{ends_with_push, good_push, sub_contains}
use Rattle.cdcl_trail.specs.declared.entry.Entry.{Entry}
use Rattle.cdcl_trail.specs.Trail.{Trail, IsTrail, IsDecision, reason_of, literals_of}
use Rattle.cdcl_core.specs.declared.activity.Activity.{Activity}
use Rattle.cdcl_core.specs.declared.search.Search.{Search}
use Rattle.cdcl_core.specs.Analysis.{ShowsGiven, IsMarked}
use Rattle.cdcl_core.specs.Search.{IsKept, IsTrueUpTo, IsSearch, Ends, IsInCore, IsCoreIn}
use Rattle.cdcl_core.proofs.EntryLaws.{of_literals, reason_found}
use Rattle.cdcl_core.proofs.KeptLaws.{kept_same, closes_shown, closes_hinted}
use Rattle.cdcl_core.proofs.EndLaws.{answer_refutes, core_free, core_has, clash_answer}

-- other atoms are seen, with another activity
pub seen_search : (assumptions : List (Signed ℕ)) (s : Search) (m : List Bool) (a : Activity) → length m ≡ length s.seen → IsSearch assumptions s → IsSearch assumptions (record s { seen = m; activity = a })
seen_search assumptions s m a same k = record {
  kept = kept_same s (record s { seen = m; activity = a }) refl refl refl same (λ p. p) k.kept;
  low = k.low;
  decisions = k.decisions;
  all_true = k.all_true;
  checked = k.checked;
}

-- the end by steps
pub refuted_ends : (assumptions core : List (Signed ℕ)) (s : Search) (last : Step) (derivation : List Step) → last.clause ≡ map complement core → IsSubList core assumptions → IsKept s → AtomsBelow s.trail.trail.atoms core → ClosesAll (map complement core) (map (cited s.log.added s.log.steps) last.hints)
    → IsCutOf (s.log.steps ++ last ∷ []) derivation → Ends assumptions s s (Unsat core derivation)
refuted_ends assumptions core s last derivation is within k low closes cuts =
    let n = s.trail.trail.atoms in
    let F = map complement core in
    let ends : EndsWith (s.log.steps ++ last ∷ []) F = subst (EndsWith (s.log.steps ++ last ∷ [])) is (ends_with_push s.log.steps last) in
    let good = good_push s.log.added n s.log.steps last k.log.good
    (subst (λ c. IsShown c (map (cited s.log.added s.log.steps) last.hints)) (sym is) (closes_shown F (map (cited s.log.added s.log.steps) last.hints) closes))
    (closes_hinted s.log.added s.log.steps F last.hints closes)
    (subst (AtomsBelow n) (sym is) (All-map (λ l. l.atom < n) complement core low)) in
    record {
      kept = k;
      same = record { atoms = refl; added = refl };
      answered = answer_refutes n s.log.added assumptions core (s.log.steps ++ last ∷ []) derivation good within ends cuts;
    }

-- a false assumption
pub false_entry : (t : Trail) (l : Signed ℕ) (o : Option ℕ) → IsTrail t → Contains (literals_of t.entries) (complement l) → o ≡ reason_of t.entries l.atom → (e : Entry) × Contains t.entries e × (e.lit ≡ complement l) × (e.reason ≡ o)
false_entry t l o v c read =
    let f = of_literals t.entries (complement l) c in
    (f.0, f.1, sym f.2, sym (read ∙ reason_found t f.0 l.atom v f.1 (ap (λ x. x.atom) (sym f.2))))

-- all decisions are assumptions where no other level is open
pub all_assumed : (assumptions : List (Signed ℕ)) (s : Search) → IsTrail s.trail.trail → s.trail.trail.level ≤ s.assumed → IsSearch assumptions s → (e : Entry) → Contains s.trail.trail.entries e → IsDecision e → Contains assumptions e.lit
all_assumed assumptions s v low k e c chosen =
    let top = All-contains (λ x. x.level ≤ s.trail.trail.level) s.trail.trail.entries e v.levels c in
    k.decisions e c chosen (omega (arith, top, low))

pub core_closes : (s : Search) (marks : List Bool) (assumptions core : List (Signed ℕ)) (l : Signed ℕ) (hints : List Hint) → IsTrail s.trail.trail → s.trail.trail.level ≤ s.assumed → IsSearch assumptions s → Contains assumptions l → IsCoreIn s.trail.trail.entries marks l assumptions core → ShowsGiven s.log s.trail.trail.entries (complement l) marks hints
    → ClosesAll (map complement core) (map (cited s.log.added s.log.steps) hints)
core_closes s marks assumptions core l hints v low k inside c shows =
    shows (map complement core) (λ e d other h. core_free s.trail.trail marks l assumptions core v c e d other h) (core_has s.trail.trail marks l assumptions core inside (all_assumed assumptions s v low k) c)

pub core_atoms : (n : ℕ) (assumptions core : List (Signed ℕ)) → AtomsBelow n assumptions → IsSubList core assumptions → AtomsBelow n core
core_atoms n assumptions core low within = All-weaker (Contains assumptions) (λ l. l.atom < n) (λ l c. All-contains (λ x. x.atom < n) assumptions l low c) core (sub_contains core assumptions within)

pub if_ok : {T E : Type 0} (r : Result T E) (P Q : T → Type 0) → ((x : T) → P x → Q x) → IfOk r P → IfOk r Q
if_ok (Ok x) P Q f h = f x h
if_ok (Err e) P Q f h = tt

pub up_to_all : (assumptions : List (Signed ℕ)) (s : Search) → IsTrail s.trail.trail → s.trail.trail.level ≤ s.assumed → All (Contains (literals_of s.trail.trail.entries)) assumptions → All (IsTrueUpTo s.trail.trail.entries s.assumed) assumptions
up_to_all assumptions s v low all = All-weaker (Contains (literals_of s.trail.trail.entries)) (IsTrueUpTo s.trail.trail.entries s.assumed) (λ l c.
    let f = of_literals s.trail.trail.entries l c in
    let top = All-contains (λ x. x.level ≤ s.trail.trail.level) s.trail.trail.entries f.0 v.levels f.1 in
    (f.0, f.1, sym f.2, omega (arith, top, low))) assumptions all

pub none_of : {X : Type 0} (o : Option X) → is_some o ≡ false → o ≡ None
none_of None e = refl
none_of (Some x) e = absurd (true≢false e)

pub seen_ends : (assumptions : List (Signed ℕ)) (s new : Search) (m : List Bool) (a : Answer) → Ends assumptions (record s { seen = m }) new a → Ends assumptions s new a
seen_ends assumptions s new m a c = record { kept = c.kept; same = record { atoms = c.same.atoms; added = c.same.added }; answered = c.answered }

one_mark : (n a : ℕ) (m : List Bool) → m ≡ set (replicate n false) a true → a < n → (length m ≡ n) × IsMarked m a
one_mark n a m e h = (
  ap length e ∙ length-set (replicate n false) a true ∙ length-replicate n false,
  ap (λ x. get_or x a false) e ∙ get_or-set_same (replicate n false) a true false (omega (arith, length-replicate n false)),
)

-- an assumption and its complement
pub clash_ends : (assumptions core : List (Signed ℕ)) (s : Search) (m : List Bool) (a : Activity) (l : Signed ℕ) (derivation : List Step) → m ≡ set (replicate (length s.seen) false) l.atom true → IsKept s → AtomsBelow s.trail.trail.atoms assumptions → IsCoreIn s.trail.trail.entries m l assumptions core → Contains assumptions l → Contains assumptions (complement l)
    → (e : Entry) × Contains s.trail.trail.entries e × (e.lit ≡ complement l) × IsDecision e → derivation ≡ (record { clause = map complement core; hints = [] }) ∷ [] → Ends assumptions s (record s { seen = m; activity = a }) (Unsat core derivation)
clash_ends assumptions core s m a l derivation marks k low c here there e is =
    let n = length s.seen in
    let inside : l.atom < n = omega (arith, All-contains (λ x. x.atom < s.trail.trail.atoms) assumptions l low here, k.seen) in
    let one = one_mark n l.atom m marks inside in
    let marked : IsMarked m e.0.lit.atom = subst (λ x. IsMarked m x.atom) (sym e.2) one.1 in
    let first = All-contains (λ x. IsInCore s.trail.trail.entries m l x → Contains core x) assumptions l c.whole here (inl refl) in
    let second = All-contains (λ x. IsInCore s.trail.trail.entries m l x → Contains core x) assumptions (complement l) c.whole there (inr (e.0, e.1, e.2, e.3, marked)) in
    record {
      kept = kept_same s (record s { seen = m; activity = a }) refl refl refl one.0 (λ p. p) k;
      same = record { atoms = refl; added = refl };
      answered = subst (λ d. IsAnswer s.trail.trail.atoms s.log.added assumptions (Unsat core d)) (sym is) (clash_answer s.trail.trail.atoms s.log.added assumptions core l c.within (core_atoms s.trail.trail.atoms assumptions core low c.within) first second);
    }
