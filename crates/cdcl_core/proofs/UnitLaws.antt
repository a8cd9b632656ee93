-- Facts of level 0 as steps.
use Rattle.std.proofs.Common.{◌≡◌, ◌≢◌, ℕ, ◌<◌, ◌⊎◌, inl, inr, List, [], ◌∷◌, ◌++◌, map, take, Some, refl, sym, ap, ◌∙◌, subst, arith, append_assoc}
use Rattle.std.specs.Prelude.{All, Contains, slice_get}
use Rattle.std.proofs.lemmas.List.Elements.{All-nil, All-cons, All-push, All-contains, All-weaker, Contains-push, Contains-push_cases, Contains-append_left}
use Rattle.inst_logic.specs.declared.signed.Signed.{Signed}
use Rattle.inst_logic.specs.Signed.{complement}
use Rattle.inst_logic.specs.Derivations.{IsOnlyOutside}
use Rattle.prop_logic.specs.declared.literal.Hint.{Hint}
use Rattle.prop_logic.specs.declared.literal.Step.{Step}
use Rattle.prop_logic.specs.Literal.{cited}
use Rattle.prop_logic.specs.Analysis.{ClosesAll}
use Rattle.prop_logic.proofs.ListLaws.{Contains-take}
use Rattle.cdcl_trail.specs.declared.entry.Entry.{Entry}
use Rattle.cdcl_trail.specs.Trail.{Trail, IsTrail}
use Rattle.cdcl_trail.specs.Propagation.{IsFalseIn, GivesUnit}
use Rattle.cdcl_core.specs.declared.log.Log.{Log}
use Rattle.cdcl_core.specs.declared.search.Search.{Search}
use Rattle.cdcl_core.specs.Search.{IsKept, IsLogOf, IsLogMore}
use Rattle.cdcl_core.proofs.EntryLaws.{pair_before, of_false, consistent}
use Rattle.cdcl_core.proofs.AnalysisLaws.{unit_step, named_closes}
use Rattle.cdcl_core.proofs.LogLaws.{log_step}
use Rattle.cdcl_core.proofs.KeptLaws.{closes_shown, closes_hinted}

-- F has none of the entries' literals but l
abbrev pub IsFreeBut : List Entry → Signed ℕ → List (Signed ℕ) → Type 0
IsFreeBut entries l F = (e : Entry) → Contains entries e → e.lit ≢ l → ¬ Contains F e.lit

-- what closes from each such F that has the part of the clause closes from l alone, after the hints
abbrev pub Leads : Log → List Entry → Signed ℕ → List (Signed ℕ) → List Hint → Type 0
Leads log entries l part hints =
    (rest : List Hint) → ((G : List (Signed ℕ)) → IsFreeBut entries l G → Contains G l → All (Contains G) part → ClosesAll G (map (cited log.added log.steps) rest))
    → (F : List (Signed ℕ)) → IsFreeBut entries l F → Contains F l → ClosesAll F (map (cited log.added log.steps) (hints ++ rest))

-- the literal itself
pub leads_same : (log : Log) (entries : List Entry) (l : Signed ℕ) (part : List (Signed ℕ)) (hints : List Hint) → Leads log entries l part hints → Leads log entries l (part ++ l ∷ []) hints
leads_same log entries l part hints x = λ rest k F free has. x rest (λ G left inside all. k G left inside (All-push (Contains G) part l all inside)) F free has

-- one that is false by a fact alone
pub leads_more : (log : Log) (t : Trail) (l : Signed ℕ) (part : List (Signed ℕ)) (hints : List Hint) (e : Entry) (h : Hint) → IsTrail t → Contains t.entries e → e.lit ≢ l → cited log.added log.steps h ≡ Some (e.lit ∷ [])
    → Leads log t.entries l part hints → Leads log t.entries l (part ++ complement e.lit ∷ []) (hints ++ h ∷ [])
leads_more log t l part hints e h v inside other named x = λ rest k F free has.
    let f = cited log.added log.steps in
    let m = complement e.lit in
    subst (λ hs. ClosesAll F (map f hs)) (sym (append_assoc hints (h ∷ []) rest))
    (x (h ∷ rest) (λ G left here all.
    let more = G ++ m ∷ [] in
    let one : IsOnlyOutside G (e.lit ∷ []) e.lit = record {
      here = (0, omega arith, refl);
      outside = left e inside other;
      others = All-cons (λ y. Contains G y ⊎ (y ≡ e.lit)) e.lit [] (inr refl) (All-nil (λ y. Contains G y ⊎ (y ≡ e.lit)));
    } in
    let free_more : IsFreeBut t.entries l more = λ d cd n c. elim (Contains-push_cases G m d.lit c) [
      | inl old ↦ left d cd n old
      | inr new ↦ consistent t d e v cd inside (sym new)
    ] in
    let all_more = All-push (Contains more) part m (All-weaker (Contains G) (Contains more) (λ y c. Contains-append_left G (m ∷ []) y c) part all) (Contains-push G m) in
    subst (λ o. ClosesAll G (o ∷ map f rest)) (sym named) (unit_step G (e.lit ∷ []) e.lit (map f rest) one (k more free_more (Contains-append_left G (m ∷ []) l here) all_more))) F free has)

-- the hints lead to the clause, which the last one cites
pub leads_done : (log : Log) (entries : List Entry) (l : Signed ℕ) (clause : List (Signed ℕ)) (hints : List Hint) (last : Hint) → cited log.added log.steps last ≡ Some clause → Leads log entries l clause hints → ClosesAll (l ∷ []) (map (cited log.added log.steps) (hints ++ last ∷ []))
leads_done log entries l clause hints last named x =
    x (last ∷ []) (λ G free has all. named_closes G clause (cited log.added log.steps last) named all) (l ∷ []) (λ e c n k. elim (Contains-push_cases [] l e.lit k) [
      | inl none ↦ absurd (omega (arith, none.1))
      | inr is ↦ n (sym is)
    ]) (0, omega arith, refl)

-- another literal of a clause that gave one is false by an earlier entry
pub false_other : (t : Trail) (i : ℕ) (e : Entry) (clause : List (Signed ℕ)) (m : Signed ℕ) → IsTrail t → slice_get t.entries i ≡ Some e → GivesUnit (take i t.entries) clause e.lit → Contains clause m → (m ≡ e.lit → ⊥) → (d : Entry) × Contains t.entries d × (d.lit ≢ e.lit) × (m ≡ complement d.lit)
false_other t i e clause m v at unit inside other =
    elim (All-contains (λ y. IsFalseIn (take i t.entries) y ⊎ (y ≡ e.lit)) clause m unit.others inside) [
      | inl f ↦
          let d = of_false (take i t.entries) m f in
          (d.0, Contains-take t.entries i d.0 d.1, λ same. pair_before (λ a b. a.lit.atom ≢ b.lit.atom) t.entries i d.0 e v.once at d.1 (ap (λ y. y.atom) same), d.2)
      | inr same ↦ absurd (other same)
    ]

-- a log with a step more
pub more_step : (atoms : ℕ) (old new : Log) (l : Signed ℕ) (hints : List Hint) → l.atom < atoms → ClosesAll (l ∷ []) (map (cited old.added old.steps) hints) → new.added ≡ old.added → new.steps ≡ old.steps ++ (record { clause = l ∷ []; hints = hints }) ∷ [] → new.names ≡ old.names → IsLogMore atoms old new
more_step atoms old new l hints low closes added steps names =
    let s : Step = record { clause = l ∷ []; hints = hints } in
    record {
      added = added;
      log = λ clauses v. log_step atoms clauses s old new v (closes_shown (l ∷ []) (map (cited old.added old.steps) hints) closes) (closes_hinted old.added old.steps (l ∷ []) hints closes)
          (All-cons (λ y. y.atom < atoms) l [] low (All-nil (λ y. y.atom < atoms))) added steps names;
    }

pub more_both : (atoms : ℕ) (first old new : Log) → IsLogMore atoms first old → IsLogMore atoms old new → IsLogMore atoms first new
more_both atoms first old new a b = record { added = b.added ∙ a.added; log = λ clauses v. b.log clauses (a.log clauses v) }

pub more_of : (t : Trail) (old new : Log) → IsLogMore t.atoms old new → IsLogOf old t → IsLogOf new t
more_of t old new m v = (v.0, m.log v.0 v.1, v.2)

pub more_kept : (s : Search) (log : Log) → IsLogMore s.trail.trail.atoms s.log log → IsKept s → IsKept (record s { log = log })
more_kept s log m k = record { log = m.log s.clauses k.log; given = k.given; attached = k.attached; seen = k.seen; phases = k.phases }
