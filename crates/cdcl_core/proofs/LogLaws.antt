-- What hints cite as the log grows.
use Rattle.std.proofs.Common.{◌≡◌, ℕ, suc, zero, ◌+◌, ◌<◌, ◌≤◌, ◌⊎◌, inl, inr, List, [], ◌∷◌, ◌++◌, length, map, take, Option, Some, None, refl, sym, ap, ◌∙◌, subst, arith}
use Rattle.std.specs.Prelude.{All, slice_get}
use Rattle.std.proofs.lemmas.List.{length_push}
use Rattle.std.proofs.lemmas.List.Elements.{All-map, All-push, All-weaker}
use Rattle.std.proofs.lemmas.Option.{same_Some, none-some, slice_get_past}
use Rattle.std.proofs.lemmas.Bool.{cases_eq}
use Rattle.inst_logic.specs.declared.signed.Signed.{Signed}
use Rattle.inst_logic.specs.Signed.{complement}
use Rattle.inst_logic.specs.Derivations.{at_number, Closes, IsShown}
use Rattle.prop_logic.specs.declared.literal.Hint.{Hint}
use Rattle.prop_logic.specs.declared.literal.Hint.TheVariants.{Added, Step as Earlier}
use Rattle.prop_logic.specs.declared.literal.Step.{Step}
use Rattle.prop_logic.specs.Literal.{cited, AtomsBelow, AllAtomsBelow, StepsBelow}
use Rattle.prop_logic.specs.Search.{AreGood}
use Rattle.prop_logic.proofs.ListLaws.{All-slice_get, slice_get_append, slice_get_last}
use Rattle.prop_logic.proofs.SearchLaws.{good_push, last_cited, cited_later}
use Rattle.cdcl_trail.specs.Clauses.{clause_number, AddsClause, ClausesBelow}
use Rattle.cdcl_core.specs.declared.log.Log.{Log}
use Rattle.cdcl_core.specs.Log.{IsFound, PutsName, IsNamed, IsLog}

pub cited_no_added : (added : List (List (Signed ℕ))) (steps : List Step) (h : Hint) (n : ℕ) (c : List (Signed ℕ)) → h ≡ Added n → (n ≤ 0) ⊎ (length added < n) → cited added steps h ≡ Some c → ⊥
cited_no_added added steps h zero c is past e = none-some c (ap (cited added steps) (sym is) ∙ e)
cited_no_added added steps h (suc n) c is (inl low) e = absurd (omega arith)
cited_no_added added steps h (suc n) c is (inr high) e = none-some c (sym (slice_get_past added n (omega arith)) ∙ ap (cited added steps) (sym is) ∙ e)

-- what a hint cites is below the number of atoms
pub cited_below : (n : ℕ) (added : List (List (Signed ℕ))) (steps : List Step) (h : Hint) (c : List (Signed ℕ)) → AllAtomsBelow n added → StepsBelow n steps → cited added steps h ≡ Some c → AtomsBelow n c
cited_below n added steps (Added zero) c a s e = absurd cc
cited_below n added steps (Added (suc k)) c a s e = All-slice_get (AtomsBelow n) added a k c e
cited_below n added steps (Earlier zero) c a s e = absurd cc
cited_below n added steps (Earlier (suc k)) c a s e = All-slice_get (AtomsBelow n) (map (λ x. x.clause) steps) (All-map (AtomsBelow n) (λ x. x.clause) steps s) k c e

pub named_below : (n : ℕ) (clauses : List (Option (List (Signed ℕ)))) (log : Log) → IsLog n clauses log → ClausesBelow n clauses
named_below n clauses log v = λ k c e.
    let f = v.named k c e in
    cited_below n log.added log.steps f.0 c v.below v.good.below f.2

-- clauses stay shown as clauses are added
cited_grown : (added more : List (List (Signed ℕ))) (steps : List Step) (h : Hint) (c : List (Signed ℕ)) → cited added steps h ≡ Some c → cited (added ++ more) steps h ≡ Some c
cited_grown added more steps (Added zero) c e = e
cited_grown added more steps (Added (suc n)) c e = slice_get_append added more n c e
cited_grown added more steps (Earlier n) c e = e

closes_grown : (f g : Hint → Option (List (Signed ℕ))) → ((h : Hint) (c : List (Signed ℕ)) → f h ≡ Some c → g h ≡ Some c) → (hints : List Hint) (F : List (Signed ℕ)) (h : Hint) (o : Option (List (Signed ℕ))) → f h ≡ o → Closes F o (map f hints) → Closes F (g h) (map g hints)
closes_grown f g stays [] F h None e c = absurd c
closes_grown f g stays (x ∷ hints) F h None e c = absurd c
closes_grown f g stays [] F h (Some clause) e c = subst (λ o. Closes F o []) (sym (stays h clause e)) c
closes_grown f g stays (x ∷ hints) F h (Some clause) e c =
    subst (λ o. Closes F o (map g (x ∷ hints))) (sym (stays h clause e)) (c.0, c.1, closes_grown f g stays hints (F ++ complement c.0 ∷ []) x (f x) refl c.2)

shown_grown : (f g : Hint → Option (List (Signed ℕ))) → ((h : Hint) (c : List (Signed ℕ)) → f h ≡ Some c → g h ≡ Some c) → (clause : List (Signed ℕ)) (hints : List Hint) → IsShown clause (map f hints) → IsShown clause (map g hints)
shown_grown f g stays clause [] s = s
shown_grown f g stays clause (h ∷ hints) s = closes_grown f g stays hints clause h (f h) refl s

pub good_grown : (added more : List (List (Signed ℕ))) (n : ℕ) (steps : List Step) → AreGood added n steps → AreGood (added ++ more) n steps
good_grown added more n steps g = record {
  shown = λ k s e. shown_grown (cited added (take k steps)) (cited (added ++ more) (take k steps)) (λ h c. cited_grown added more (take k steps) h c) s.clause s.hints (g.shown k s e);
  hinted = g.hinted;
  below = g.below;
}

below_more : (n : ℕ) (c : List (Signed ℕ)) → AtomsBelow n c → AtomsBelow (n + 1) c
below_more n c h = All-weaker (λ l. l.atom < n) (λ l. l.atom < n + 1) (λ l k. omega arith) c h

-- one more atom
pub log_atom : (n : ℕ) (clauses : List (Option (List (Signed ℕ)))) (log : Log) → IsLog n clauses log → IsLog (n + 1) clauses log
log_atom n clauses log v = record {
  named = v.named;
  held = v.held;
  below = All-weaker (AtomsBelow n) (AtomsBelow (n + 1)) (λ c h. below_more n c h) log.added v.below;
  good = record { shown = v.good.shown; hinted = v.good.hinted; below = All-weaker (λ s. AtomsBelow n s.clause) (λ s. AtomsBelow (n + 1) s.clause) (λ s h. below_more n s.clause h) log.steps v.good.below };
}

-- a clause more of the trail's
pub clause_kept : (old new : List (Option (List (Signed ℕ)))) (clause : List (Signed ℕ)) (n k : ℕ) (c : List (Signed ℕ)) → AddsClause old new clause n → clause_number old k ≡ Some c → clause_number new k ≡ Some c
clause_kept old new clause n k c a e =
    elim (cases_eq k n) [
      | inl same ↦ absurd (none-some c (sym a.free ∙ ap (clause_number old) (sym same) ∙ e))
      | inr other ↦ a.others k other ∙ e
    ]

named_more : (old new : List (Option (List (Signed ℕ)))) (clause : List (Signed ℕ)) (n : ℕ) (h : Hint) (log next : Log) → AddsClause old new clause n → PutsName log.names next.names n h → cited next.added next.steps h ≡ Some clause
    → ((g : Hint) (c : List (Signed ℕ)) → cited log.added log.steps g ≡ Some c → cited next.added next.steps g ≡ Some c) → ((k : ℕ) (c : List (Signed ℕ)) → clause_number old k ≡ Some c → IsNamed log k c)
    → (k : ℕ) (c : List (Signed ℕ)) → clause_number new k ≡ Some c → IsNamed next k c
named_more old new clause n h log next a p cites stays named k c e =
    elim (cases_eq k n) [
      | inl same ↦
          let is : clause ≡ c = same_Some clause c (sym a.added ∙ ap (clause_number new) (sym same) ∙ e) in
          (h, ap (slice_get next.names) same ∙ p.here, cites ∙ ap Some is)
      | inr other ↦
          let f = named k c (sym (a.others k other) ∙ e) in
          (f.0, p.others k f.0 other f.1, stays f.0 c f.2)
    ]

held_more : (old new : List (Option (List (Signed ℕ)))) (names next : List Hint) (clause : List (Signed ℕ)) (n : ℕ) (h : Hint) (cs : List (List (Signed ℕ))) → AddsClause old new clause n → PutsName names next n h → All (IsFound old names) cs → All (IsFound new next) cs
held_more old new names next clause n h cs a p all = All-weaker (IsFound old names) (IsFound new next)
    (λ c f. (f.0, f.1, clause_kept old new clause n f.0 c a f.2, p.others f.0 (Added f.1) (λ same. none-some c (sym a.free ∙ ap (clause_number old) (sym same) ∙ f.2)) f.3)) cs all

last_added : (added : List (List (Signed ℕ))) (clause : List (Signed ℕ)) (steps : List Step) → cited (added ++ clause ∷ []) steps (Added (length (added ++ clause ∷ []))) ≡ Some clause
last_added added clause steps =
    let count : length (added ++ clause ∷ []) ≡ suc (length added) = length_push added clause ∙ (omega arith) in
    ap (λ n. at_number (added ++ clause ∷ []) n) count ∙ slice_get_last added clause

-- an added clause
pub log_added : (n : ℕ) (old new : List (Option (List (Signed ℕ)))) (clause : List (Signed ℕ)) (k : ℕ) (log next : Log) → IsLog n old log → AtomsBelow n clause → AddsClause old new clause k → next.added ≡ log.added ++ clause ∷ [] → next.steps ≡ log.steps
    → PutsName log.names next.names k (Added (length next.added)) → IsLog n new next
log_added n old new clause k log next v low a grown same p =
    let h : Hint = Added (length next.added) in
    let cites : cited next.added next.steps h ≡ Some clause = ap (λ xs. cited xs next.steps (Added (length xs))) grown ∙ last_added log.added clause next.steps in
    let stays : (g : Hint) (c : List (Signed ℕ)) → cited log.added log.steps g ≡ Some c → cited next.added next.steps g ≡ Some c =
    λ g c e. ap (λ xs. cited xs next.steps g) grown ∙ ap (λ ss. cited (log.added ++ clause ∷ []) ss g) same ∙ cited_grown log.added (clause ∷ []) log.steps g c e in
    record {
      named = named_more old new clause k h log next a p cites stays v.named;
      held = subst (All (IsFound new next.names)) (sym grown) (All-push (IsFound new next.names) log.added clause (held_more old new log.names next.names clause k h log.added a p v.held) (k, length next.added, a.added, p.here));
      below = subst (AllAtomsBelow n) (sym grown) (All-push (AtomsBelow n) log.added clause v.below low);
      good = subst (λ xs. AreGood xs n next.steps) (sym grown) (subst (AreGood (log.added ++ clause ∷ []) n) (sym same) (good_grown log.added (clause ∷ []) n log.steps v.good));
    }

-- a step more
pub log_step : (n : ℕ) (clauses : List (Option (List (Signed ℕ)))) (s : Step) (log next : Log) → IsLog n clauses log → IsShown s.clause (map (cited log.added log.steps) s.hints) → (s.hints ≡ [] → ⊥) → AtomsBelow n s.clause
    → next.added ≡ log.added → next.steps ≡ log.steps ++ s ∷ [] → next.names ≡ log.names → IsLog n clauses next
log_step n clauses s log next v shown hinted low same grown names = record {
  named = λ k c e.
      let f = v.named k c e in
      (f.0, ap (λ xs. slice_get xs k) names ∙ f.1, ap (λ xs. cited xs next.steps f.0) same ∙ ap (λ ss. cited log.added ss f.0) grown ∙ cited_later log.added log.steps (s ∷ []) f.0 c f.2);
  held = subst (All (IsFound clauses next.names)) (sym same) (subst (λ xs. All (IsFound clauses xs) log.added) (sym names) v.held);
  below = subst (AllAtomsBelow n) (sym same) v.below;
  good = subst (λ xs. AreGood xs n next.steps) (sym same) (subst (AreGood log.added n) (sym grown) (good_push log.added n log.steps s v.good shown hinted low));
}

-- a learned clause, whose step is the last one
pub log_learned : (n : ℕ) (old new : List (Option (List (Signed ℕ)))) (k : ℕ) (s : Step) (before : List Step) (log next : Log) → IsLog n old log → log.steps ≡ before ++ s ∷ [] → AddsClause old new s.clause k → next.added ≡ log.added → next.steps ≡ log.steps
    → PutsName log.names next.names k (Earlier (length next.steps)) → IsLog n new next
log_learned n old new k s before log next v ends a same_added same p =
    let h : Hint = Earlier (length next.steps) in
    let whole : next.steps ≡ before ++ s ∷ [] = same ∙ ends in
    let cites : cited next.added next.steps h ≡ Some s.clause = ap (λ ss. cited next.added ss (Earlier (length ss))) whole ∙ last_cited next.added before s in
    let stays : (g : Hint) (c : List (Signed ℕ)) → cited log.added log.steps g ≡ Some c → cited next.added next.steps g ≡ Some c = λ g c e. ap (λ xs. cited xs next.steps g) same_added ∙ ap (λ ss. cited log.added ss g) same ∙ e in
    record {
      named = named_more old new s.clause k h log next a p cites stays v.named;
      held = subst (All (IsFound new next.names)) (sym same_added) (held_more old new log.names next.names s.clause k h log.added a p v.held);
      below = subst (AllAtomsBelow n) (sym same_added) v.below;
      good = subst (λ xs. AreGood xs n next.steps) (sym same_added) (subst (AreGood log.added n) (sym same) v.good);
    }
