-- The search of the plain solver.
use Rattle.std.proofs.Common.{◌≡◌, ◌≢◌, ℕ, suc, zero, ◌+◌, ◌-◌, ◌^◌, ◌<◌, ◌≤◌, Bool, true, false, not, ◌⊎◌, inl, inr, List, [], ◌∷◌, ◌++◌, length, map, take, get_or, Option, Some, None, Result, Ok, Err, refl, sym, ap, ◌∙◌, subst, arith}
use Rattle.std.specs.Prelude.{All, Contains, slice_get, unwrap_or, IfSome, IfNone, IfOk, OnOk}
use Rattle.std.specs.Option.{option_map}
use Rattle.std.proofs.lemmas.List.{length_push, length-take-le, length-map}
use Rattle.std.proofs.lemmas.List.Elements.{All-contains, All-weaker, All-map, Contains-push, Contains-append_left}
use Rattle.std.proofs.lemmas.Option.{same_Some, none-some, slice_get_within, slice_get-get_or, slice_get-map}
use Rattle.std.proofs.lemmas.Bool.{cases_eq, false≢true}
use Rattle.inst_logic.specs.declared.signed.Signed.{Signed}
use Rattle.inst_logic.specs.Signed.{complement, signed}
use Rattle.inst_logic.specs.Truth.{IsTrueLiteral, IsTrueClause}
use Rattle.inst_logic.specs.Derivations.{Closes, at_number}
use Rattle.prop_logic.specs.declared.literal.Hint.{Hint}
use Rattle.prop_logic.specs.declared.literal.Hint.TheVariants.{Step as Earlier}
use Rattle.prop_logic.specs.declared.literal.Step.{Step}
use Rattle.prop_logic.specs.declared.search.Entry.{Entry}
use Rattle.prop_logic.specs.declared.search.Search.{Search}
use Rattle.prop_logic.specs.declared.search.Outcome.{Outcome}
use Rattle.prop_logic.specs.Literal.{cited, AtomsBelow, AllAtomsBelow}
use Rattle.prop_logic.specs.Solving.{IsSubList, Satisfies}
use Rattle.prop_logic.specs.Valuation.{IsHeld}
use Rattle.prop_logic.specs.Search.{AreGood, IsCore, AreConsistent, literal_of, HasRest, IsOpposed, IsUnit, HasReason, Follows, IsSearch, IsResolvent, weight, Advances, Turns, Undoes, Continues}
use Rattle.prop_logic.proofs.ListLaws.{slice_get_push, slice_get_take, take_slice_get, take_of_append, take_of_take, take_whole, All-from_contained}
use Rattle.prop_logic.proofs.Measure.{weight_below, weight_push, weight_flip}
use Rattle.prop_logic.proofs.SearchLaws.{complement_twice, not_not, good_none, good_push, last_cited, cited_later, contains_map, sub_contains, ends_with_push}

-- literals of one atom
pub made : (l : Signed ℕ) (a : ℕ) (b : Bool) → l.atom ≡ a → l.positive ≡ b → l ≡ literal_of a b
made l a b at sign = ap (λ p. record { positive = p; atom = l.atom }) sign ∙ ap (λ n. record { positive = b; atom = n }) at

pub differ : (p q : Bool) → p ≢ q → p ≡ not q
differ true true n = absurd (n refl)
differ true false n = refl
differ false true n = refl
differ false false n = absurd (n refl)

-- a literal that can't be true, of another atom than the last one
pub opposed_below : (assumptions : List (Signed ℕ)) (entries : List Entry) (k : ℕ) (m : Signed ℕ) → length entries ≤ k + 1 → m.atom ≢ k → IsOpposed assumptions entries m → IsOpposed assumptions (take k entries) m
opposed_below assumptions entries k m size other (inr c) = inr c
opposed_below assumptions entries k m size other (inl f) =
    let h = slice_get_within entries m.atom f.0 f.1 in
    inl (f.0, take_slice_get entries k m.atom f.0 (omega (arith, h, size, other)) f.1, f.2)

-- and of the last one's
pub opposed_at : (assumptions : List (Signed ℕ)) (entries : List Entry) (k : ℕ) (e : Entry) (m : Signed ℕ) → slice_get entries k ≡ Some e → Follows assumptions k e → m.atom ≡ k → IsOpposed assumptions entries m → m ≡ literal_of k (not e.value)
opposed_at assumptions entries k e m at follows here (inl f) =
    let same : f.0 ≡ e = same_Some f.0 e (sym f.1 ∙ ap (slice_get entries) here ∙ at) in
    made m k (not e.value) here (sym (not_not m.positive) ∙ ap not (sym f.2 ∙ ap (λ x. x.value) same))
opposed_at assumptions entries k e m at follows here (inr c) = made m k (not e.value) here (sym (not_not m.positive) ∙ ap not (sym (follows (complement m) c here)))

-- the conflict doesn't depend on the last value
pub conflict_skips : (assumptions : List (Signed ℕ)) (entries : List Entry) (k : ℕ) (e : Entry) (c : List (Signed ℕ)) → length entries ≤ k + 1 → slice_get entries k ≡ Some e → Follows assumptions k e
    → All (λ l. l ≢ literal_of k (not e.value)) c → All (IsOpposed assumptions entries) c → All (IsOpposed assumptions (take k entries)) c
conflict_skips assumptions entries k e c size at follows free all = All-from_contained (IsOpposed assumptions (take k entries)) c (λ m inside.
    let o = All-contains (IsOpposed assumptions entries) c m all inside in
    opposed_below assumptions entries k m size (λ here. All-contains (λ l. l ≢ literal_of k (not e.value)) c m free inside (opposed_at assumptions entries k e m at follows here o)) o)

-- the last value is assumed
pub conflict_assumed : (assumptions : List (Signed ℕ)) (entries : List Entry) (k : ℕ) (e : Entry) (v : Bool) (c : List (Signed ℕ)) → length entries ≤ k + 1 → slice_get entries k ≡ Some e → Follows assumptions k e → Contains assumptions (literal_of k v)
    → All (IsOpposed assumptions entries) c → All (IsOpposed assumptions (take k entries)) c
conflict_assumed assumptions entries k e v c size at follows assumed all = All-from_contained (IsOpposed assumptions (take k entries)) c (λ m inside.
    let o = All-contains (IsOpposed assumptions entries) c m all inside in
    elim (cases_eq m.atom k) [
      | inl here ↦
          let value : e.value ≡ v = follows (literal_of k v) assumed refl in
          let is : complement m ≡ literal_of k v = ap complement (opposed_at assumptions entries k e m at follows here o) ∙ ap (literal_of k) (not_not e.value ∙ value) in
          inr (subst (Contains assumptions) (sym is) assumed)
      | inr other ↦ opposed_below assumptions entries k m size other o
    ])

-- the last value is turned by the conflict
pub conflict_turns : (assumptions : List (Signed ℕ)) (entries : List Entry) (k : ℕ) (e : Entry) (c : List (Signed ℕ)) → length entries ≤ k + 1 → slice_get entries k ≡ Some e → Follows assumptions k e → All (λ l. l.atom ≢ k) assumptions → Contains c (literal_of k (not e.value))
    → All (IsOpposed assumptions entries) c → IsUnit assumptions (take k entries) c (literal_of k (not e.value))
conflict_turns assumptions entries k e c size at follows free here all = record {
  free = free;
  here = here;
  others = All-from_contained (λ m. (m ≡ literal_of k (not e.value)) ⊎ IsOpposed assumptions (take k entries) m) c (λ m inside.
      let o = All-contains (IsOpposed assumptions entries) c m all inside in
      elim (cases_eq m.atom k) [ inl at_k ↦ inl (opposed_at assumptions entries k e m at follows at_k o) | inr other ↦ inr (opposed_below assumptions entries k m size other o) ]);
}

-- the resolvent can't be true by the entries before
pub resolvent_opposed : (assumptions : List (Signed ℕ)) (entries : List Entry) (k : ℕ) (e : Entry) (r c f : List (Signed ℕ)) → length entries ≤ k + 1
    → IsUnit assumptions (take k entries) r (literal_of k e.value) → All (IsOpposed assumptions entries) c → IsResolvent r c k f → All (IsOpposed assumptions (take k entries)) f
resolvent_opposed assumptions entries k e r c f size unit all res = All-from_contained (IsOpposed assumptions (take k entries)) f (λ m inside.
    let from = res.from m inside in
    elim from.0 [
      | inl one ↦ elim (All-contains (λ x. (x ≡ literal_of k e.value) ⊎ IsOpposed assumptions (take k entries) x) r m unit.others one) [
        | inl same ↦ absurd (from.1 (ap (λ x. x.atom) same))
        | inr o ↦ o
      ]
      | inr other ↦ opposed_below assumptions entries k m size from.1 (All-contains (IsOpposed assumptions entries) c m all other)
    ])

-- and is shown by the two clauses
pub resolvent_closes : (assumptions : List (Signed ℕ)) (entries : List Entry) (k : ℕ) (e : Entry) (r c f : List (Signed ℕ)) → slice_get entries k ≡ Some e → Follows assumptions k e
    → IsUnit assumptions (take k entries) r (literal_of k e.value) → All (IsOpposed assumptions entries) c → IsResolvent r c k f → Closes f (Some r) (Some c ∷ [])
resolvent_closes assumptions entries k e r c f at follows unit all res = (
  literal_of k e.value,
  record {
    here = unit.here;
    outside = λ inside. (res.from (literal_of k e.value) inside).1 refl;
    others = All-from_contained (λ m. Contains f m ⊎ (m ≡ literal_of k e.value)) r (λ m inside.
        elim (All-contains (λ x. (x ≡ literal_of k e.value) ⊎ IsOpposed assumptions (take k entries) x) r m unit.others inside) [
          | inl same ↦ inr same
          | inr o ↦ elim (All-contains (λ x. (x.atom ≡ k) ⊎ Contains f x) r m res.first inside) [ inl here ↦ absurd (not_opposed m here o) | inr there ↦ inl there ]
        ]);
  },
  All-from_contained (Contains (f ++ complement (literal_of k e.value) ∷ [])) c (λ m inside.
      elim (All-contains (λ x. (x.atom ≡ k) ⊎ Contains f x) c m res.second inside) [
        | inl here ↦
            let is : m ≡ complement (literal_of k e.value) = opposed_at assumptions entries k e m at follows here (All-contains (IsOpposed assumptions entries) c m all inside) in
            subst (Contains (f ++ complement (literal_of k e.value) ∷ [])) (sym is) (Contains-push f (complement (literal_of k e.value)))
        | inr there ↦ Contains-append_left f (complement (literal_of k e.value) ∷ []) m there
      ]),
)
  where
    not_opposed : (m : Signed ℕ) → m.atom ≡ k → IsOpposed assumptions (take k entries) m → ⊥
    not_opposed m here (inl g) = let low = slice_get_take entries k m.atom g.0 g.1 in omega (arith, low.1, here)
    not_opposed m here (inr g) = All-contains (λ l. l.atom ≢ k) assumptions (complement m) unit.free g here

-- the atoms of what can't be true
pub opposed_atoms : (n : ℕ) (assumptions : List (Signed ℕ)) (entries : List Entry) (c : List (Signed ℕ)) → AtomsBelow n assumptions → length entries ≤ n → All (IsOpposed assumptions entries) c → AtomsBelow n c
opposed_atoms n assumptions entries c low size all = All-weaker (IsOpposed assumptions entries) (λ l. l.atom < n) (λ l o. by_case l o) c all
  where
    by_case : (l : Signed ℕ) → IsOpposed assumptions entries l → l.atom < n
    by_case l (inl f) = let h = slice_get_within entries l.atom f.0 f.1 in omega (arith, h, size)
    by_case l (inr g) = All-contains (λ x. x.atom < n) assumptions (complement l) low g

-- fewer entries, and more steps
pub search_take : (clauses : List (List (Signed ℕ))) (assumptions : List (Signed ℕ)) (s t : Search) (k : ℕ) → IsSearch clauses assumptions s → t.atoms ≡ s.atoms → t.steps ≡ s.steps → k ≤ length s.entries.items → t.entries.items ≡ take k s.entries.items → IsSearch clauses assumptions t
search_take clauses assumptions s t k v atoms steps h is =
    let es = s.entries.items in
    let size : length (take k es) ≡ k = length-take-le k es h in
    record {
      within = omega (arith, v.within, h, size, ap length is, atoms);
      reasons = λ i e at.
          let low = slice_get_take es k i e (sym (ap (λ xs. slice_get xs i) is) ∙ at) in
          let before : take i t.entries.items ≡ take i es = ap (take i) is ∙ take_of_take es k i (omega (arith, low.1)) in
          subst (λ xs. HasReason clauses t.steps assumptions xs i e) (sym before) (subst (λ ss. HasReason clauses ss assumptions (take i es) i e) (sym steps) (v.reasons i e low.0));
      follows = λ i e at. v.follows i e (slice_get_take es k i e (sym (ap (λ xs. slice_get xs i) is) ∙ at)).0;
      steps = subst (λ n. AreGood clauses n t.steps) (sym atoms) (subst (AreGood clauses s.atoms) (sym steps) v.steps);
    }

-- an entry more
pub search_push : (clauses : List (List (Signed ℕ))) (assumptions : List (Signed ℕ)) (s t : Search) (d : Entry) → IsSearch clauses assumptions s → t.atoms ≡ s.atoms → t.steps ≡ s.steps → length s.entries.items < s.atoms → t.entries.items ≡ s.entries.items ++ d ∷ []
    → HasReason clauses s.steps assumptions s.entries.items (length s.entries.items) d → Follows assumptions (length s.entries.items) d → IsSearch clauses assumptions t
search_push clauses assumptions s t d v atoms steps h is reason follows =
    let es = s.entries.items in
    let read : (i : ℕ) (e : Entry) → slice_get t.entries.items i ≡ Some e → slice_get (es ++ d ∷ []) i ≡ Some e = λ i e at. sym (ap (λ xs. slice_get xs i) is) ∙ at in
    record {
      within = omega (arith, h, ap length is, length_push es d, atoms);
      reasons = λ i e at.
          subst (λ xs. HasReason clauses t.steps assumptions xs i e) (sym (ap (take i) is)) (subst (λ ss. HasReason clauses ss assumptions (take i (es ++ d ∷ [])) i e) (sym steps)
          (elim (slice_get_push es d i e (read i e at)) [
            | inl old ↦ subst (λ xs. HasReason clauses s.steps assumptions xs i e) (sym (take_of_append es (d ∷ []) i (omega (arith, old.1)))) (v.reasons i e old.0)
            | inr last ↦
                let before : take i (es ++ d ∷ []) ≡ es = take_of_append es (d ∷ []) i (omega (arith, last.0)) ∙ ap (λ n. take n es) last.0 ∙ take_whole es in
                subst (λ xs. HasReason clauses s.steps assumptions xs i e) (sym before) (subst (λ n. HasReason clauses s.steps assumptions es n e) (sym last.0) (subst (HasReason clauses s.steps assumptions es (length es)) last.1 reason))
          ]));
      follows = λ i e at. elim (slice_get_push es d i e (read i e at)) [
        | inl old ↦ v.follows i e old.0
        | inr last ↦ subst (λ n. Follows assumptions n e) (sym last.0) (subst (Follows assumptions (length es)) last.1 follows)
      ];
      steps = subst (λ n. AreGood clauses n t.steps) (sym atoms) (subst (AreGood clauses s.atoms) (sym steps) v.steps);
    }

-- a step more
pub search_step : (clauses : List (List (Signed ℕ))) (assumptions : List (Signed ℕ)) (s t : Search) (f : Step) → IsSearch clauses assumptions s → t.atoms ≡ s.atoms → t.entries.items ≡ s.entries.items → t.steps ≡ s.steps ++ f ∷ [] → AreGood clauses s.atoms (s.steps ++ f ∷ []) → IsSearch clauses assumptions t
search_step clauses assumptions s t f v atoms entries steps good =
    let es = s.entries.items in
    record {
      within = omega (arith, v.within, ap length entries, atoms);
      reasons = λ i e at.
          subst (λ xs. HasReason clauses t.steps assumptions xs i e) (sym (ap (take i) entries)) (subst (λ ss. HasReason clauses ss assumptions (take i es) i e) (sym steps)
          (λ h same. let why = v.reasons i e (sym (ap (λ xs. slice_get xs i) entries) ∙ at) h same in (why.0, cited_later clauses s.steps (f ∷ []) h why.0 why.1, why.2)));
      follows = λ i e at. v.follows i e (sym (ap (λ xs. slice_get xs i) entries) ∙ at);
      steps = subst (λ n. AreGood clauses n t.steps) (sym atoms) (subst (AreGood clauses s.atoms) (sym steps) good);
    }

-- what a number names
pub added_named : (clauses : List (List (Signed ℕ))) (place : ℕ) (c : List (Signed ℕ)) → place < length clauses → c ≡ get_or clauses place c → at_number clauses (place + 1) ≡ Some c
added_named clauses place c h is =
    let e : place + 1 ≡ suc place = omega arith in
    ap (at_number clauses) e ∙ slice_get-get_or clauses place c h ∙ ap Some (sym is)

pub not_contained : (xs : List (Signed ℕ)) (l m : Signed ℕ) → l ≡ complement m → All (λ x. x ≢ l) xs → Contains xs (complement m) → ⊥
not_contained xs l m is none inside = All-contains (λ x. x ≢ l) xs (complement m) none inside (sym is)

pub either_map : {A B C : Type 0} → A ⊎ B → (B → C) → A ⊎ C
either_map (inl a) f = inl a
either_map (inr b) f = inr (f b)

pub added_from : {P : Type 0} (xs : List (Signed ℕ)) (x m : Signed ℕ) (atom : ℕ) {Q : Type 0} → Contains xs x → (Q → P ⊎ (Contains xs m × (m.atom ≢ atom))) → Q ⊎ ((m ≡ x) × (x.atom ≢ atom)) → P ⊎ (Contains xs m × (m.atom ≢ atom))
added_from xs x m atom here before (inl q) = before q
added_from xs x m atom here before (inr f) = inr (subst (Contains xs) (sym f.0) here, λ e. f.1 (sym (ap (λ y. y.atom) f.0) ∙ e))

pub resolved_from : (one other mid : List (Signed ℕ)) (l : Signed ℕ) (atom : ℕ) (none : List (Signed ℕ)) → none ≡ [] → (Contains mid l → Contains none l ⊎ (Contains one l × (l.atom ≢ atom))) → Contains mid l ⊎ (Contains other l × (l.atom ≢ atom)) → (Contains one l ⊎ Contains other l) × (l.atom ≢ atom)
resolved_from one other mid l atom none empty first (inr f) = (inr f.0, f.1)
resolved_from one other mid l atom none empty first (inl m) =
    elim (first m) [
      | inl gone ↦ absurd (omega (arith, gone.1, ap length empty))
      | inr f ↦ (inl f.0, f.1)
    ]

-- the step is good
pub learned_good : (clauses : List (List (Signed ℕ))) (assumptions : List (Signed ℕ)) (n : ℕ) (steps : List Step) (entries : List Entry) (k : ℕ) (e : Entry) (reason conflict : Hint) (r c f : List (Signed ℕ)) → AreGood clauses n steps → AtomsBelow n assumptions → length entries ≤ n → length entries ≤ k + 1
    → slice_get entries k ≡ Some e → Follows assumptions k e → cited clauses steps reason ≡ Some r → cited clauses steps conflict ≡ Some c → IsUnit assumptions (take k entries) r (literal_of k e.value) → All (IsOpposed assumptions entries) c → IsResolvent r c k f
    → AreGood clauses n (steps ++ (record { clause = f; hints = reason ∷ conflict ∷ [] }) ∷ [])
learned_good clauses assumptions n steps entries k e reason conflict r c f good low room size at follows by_reason by_conflict unit all res =
    let s : Step = record { clause = f; hints = reason ∷ conflict ∷ [] } in
    let closes = resolvent_closes assumptions entries k e r c f at follows unit all res in
    let opposed = resolvent_opposed assumptions entries k e r c f size unit all res in
    let fewer : length (take k entries) ≤ n = omega (arith, room, length-take entries k) in
    good_push clauses n steps s good (subst (λ o. Closes f o (cited clauses steps conflict ∷ [])) (sym by_reason) (subst (λ o. Closes f (Some r) (o ∷ [])) (sym by_conflict) closes)) (λ none. cc) (opposed_atoms n assumptions (take k entries) f low fewer opposed)
  where
    length-take : (xs : List Entry) (j : ℕ) → length (take j xs) ≤ length xs
    length-take [] zero = omega arith
    length-take [] (suc j) = omega arith
    length-take (x ∷ xs) zero = omega arith
    length-take (x ∷ xs) (suc j) = omega (arith, length-take xs j)

-- the last entry went: e gave atom p its value, and the conflict cites c
pub record IsTop (clauses : List (List (Signed ℕ))) (assumptions : List (Signed ℕ)) (s m : Search) (p : ℕ) (e : Entry) (conflict : Hint) (c : List (Signed ℕ)) : Type 0 where
  pub search : IsSearch clauses assumptions s
  pub low : AtomsBelow s.atoms assumptions
  pub size : length s.entries.items ≡ p + 1
  pub at : slice_get s.entries.items p ≡ Some e
  pub named : cited clauses s.steps conflict ≡ Some c
  pub all : All (IsOpposed assumptions s.entries.items) c
  pub atoms : m.atoms ≡ s.atoms
  pub steps : m.steps ≡ s.steps
  pub entries : m.entries.items ≡ take p s.entries.items

pub top_last : (es : List Entry) (p : ℕ) → length es ≡ p + 1 → take p es ≡ take (length es - 1) es
top_last es p size = let e : p ≡ length es - 1 = omega arith in ap (λ n. take n es) e

pub top_search : (clauses : List (List (Signed ℕ))) (assumptions : List (Signed ℕ)) (s m : Search) (p : ℕ) (e : Entry) (conflict : Hint) (c : List (Signed ℕ)) → IsTop clauses assumptions s m p e conflict c → IsSearch clauses assumptions m
top_search clauses assumptions s m p e conflict c t = search_take clauses assumptions s m p t.search t.atoms t.steps (omega (arith, t.size)) t.entries

pub skip_undoes : (clauses : List (List (Signed ℕ))) (assumptions : List (Signed ℕ)) (s m : Search) (p : ℕ) (e : Entry) (conflict : Hint) (c : List (Signed ℕ)) → IsTop clauses assumptions s m p e conflict c → All (λ l. l ≢ literal_of p (not e.value)) c → Undoes clauses assumptions s m (Some conflict)
skip_undoes clauses assumptions s m p e conflict c t free = (
  t.entries ∙ top_last s.entries.items p t.size,
  (
    c,
    ap (λ ss. cited clauses ss conflict) t.steps ∙ t.named,
    subst (λ xs. All (IsOpposed assumptions xs) c) (sym t.entries) (conflict_skips assumptions s.entries.items p e c (omega (arith, t.size)) t.at (t.search.follows p e t.at) free t.all),
  ),
)

-- the step that was learned
pub record IsLearned (clauses : List (List (Signed ℕ))) (m u : Search) (p : ℕ) (reason conflict : Hint) : Type 0 where
  pub steps : (r c : List (Signed ℕ)) → cited clauses m.steps reason ≡ Some r → cited clauses m.steps conflict ≡ Some c → (f : List (Signed ℕ)) × IsResolvent r c (length m.entries.items) f × (u.steps ≡ m.steps ++ (record { clause = f; hints = reason ∷ conflict ∷ [] }) ∷ [])
  pub entries : u.entries.items ≡ m.entries.items
  pub atoms : u.atoms ≡ m.atoms

pub learn_both : (clauses : List (List (Signed ℕ))) (assumptions : List (Signed ℕ)) (s m u : Search) (p : ℕ) (e : Entry) (reason conflict : Hint) (c : List (Signed ℕ)) → IsTop clauses assumptions s m p e conflict c → e.reason ≡ Some reason → IsLearned clauses m u p reason conflict
    → IsSearch clauses assumptions u × Undoes clauses assumptions s u (Some (Earlier (length u.steps)))
learn_both clauses assumptions s m u p e reason conflict c t by l =
    let es = s.entries.items in
    let why = t.search.reasons p e t.at reason by in
    let r = why.0 in
    let follows = t.search.follows p e t.at in
    let size : length es ≤ p + 1 = omega (arith, t.size) in
    let count : length m.entries.items ≡ p = ap length t.entries ∙ length-take-le p es (omega (arith, t.size)) in
    let found = l.steps r c (ap (λ ss. cited clauses ss reason) t.steps ∙ why.1) (ap (λ ss. cited clauses ss conflict) t.steps ∙ t.named) in
    let f = found.0 in
    let res : IsResolvent r c p f = subst (λ n. IsResolvent r c n f) count found.1 in
    let step : Step = record { clause = f; hints = reason ∷ conflict ∷ [] } in
    let good : AreGood clauses m.atoms (m.steps ++ step ∷ []) =
    subst (λ n. AreGood clauses n (m.steps ++ step ∷ [])) (sym t.atoms) (subst (λ ss. AreGood clauses s.atoms (ss ++ step ∷ [])) (sym t.steps)
    (learned_good clauses assumptions s.atoms s.steps es p e reason conflict r c f t.search.steps t.low t.search.within size t.at follows why.1 t.named why.2 t.all res)) in
    let named : cited clauses u.steps (Earlier (length u.steps)) ≡ Some f = ap (λ ss. cited clauses ss (Earlier (length ss))) found.2 ∙ last_cited clauses m.steps step in (
      search_step clauses assumptions m u step (top_search clauses assumptions s m p e conflict c t) l.atoms l.entries found.2 good,
      (
        l.entries ∙ t.entries ∙ top_last es p t.size,
        (f, named, subst (λ xs. All (IsOpposed assumptions xs) f) (sym (l.entries ∙ t.entries)) (resolvent_opposed assumptions es p e r c f size why.2 t.all res)),
      ),
    )

-- the value was turned, or is assumed
pub turn_both : (clauses : List (List (Signed ℕ))) (assumptions : List (Signed ℕ)) (s m u : Search) (p : ℕ) (e : Entry) (conflict : Hint) (c : List (Signed ℕ)) (found : Option Hint) → IsTop clauses assumptions s m p e conflict c → e.reason ≡ None → Contains c (literal_of p (not e.value)) → u.atoms ≡ m.atoms → u.steps ≡ m.steps
    → IfSome found (λ h. (h ≡ conflict) × (u ≡ m) × ((v : Bool) × Contains assumptions (literal_of (length m.entries.items) v)))
    → IfNone found ((u.entries.items ≡ m.entries.items ++ (record { value = not e.value; reason = Some conflict }) ∷ []) × All (λ l. l.atom ≢ length m.entries.items) assumptions)
    → IsSearch clauses assumptions u × Undoes clauses assumptions s u found
turn_both clauses assumptions s m u p e conflict c (Some h) t chosen here atoms steps stays turned =
    let es = s.entries.items in
    let count : length m.entries.items ≡ p = ap length t.entries ∙ length-take-le p es (omega (arith, t.size)) in
    let v = stays.2.0 in
    let assumed : Contains assumptions (literal_of p v) = subst (λ n. Contains assumptions (literal_of n v)) count stays.2.1 in
    let same : u ≡ m = stays.1 in (
      subst (IsSearch clauses assumptions) (sym same) (top_search clauses assumptions s m p e conflict c t),
      (
        ap (λ x. x.entries.items) same ∙ t.entries ∙ top_last es p t.size,
        (
          c,
          ap (λ x. cited clauses x.steps h) same ∙ ap (cited clauses m.steps) stays.0 ∙ ap (λ ss. cited clauses ss conflict) t.steps ∙ t.named,
          subst (λ xs. All (IsOpposed assumptions xs) c) (sym (ap (λ x. x.entries.items) same ∙ t.entries)) (conflict_assumed assumptions es p e v c (omega (arith, t.size)) t.at (t.search.follows p e t.at) assumed t.all),
        ),
      ),
    )
turn_both clauses assumptions s m u p e conflict c None t chosen here atoms steps stays turned =
    let es = s.entries.items in
    let size : length es ≤ p + 1 = omega (arith, t.size) in
    let count : length m.entries.items ≡ p = ap length t.entries ∙ length-take-le p es (omega (arith, t.size)) in
    let d : Entry = record { value = not e.value; reason = Some conflict } in
    let free : All (λ l. l.atom ≢ p) assumptions = subst (λ n. All (λ l. l.atom ≢ n) assumptions) count turned.1 in
    let unit : IsUnit assumptions (take p es) c (literal_of p (not e.value)) = conflict_turns assumptions es p e c size t.at (t.search.follows p e t.at) free here t.all in
    let reason : HasReason clauses m.steps assumptions m.entries.items (length m.entries.items) d = λ h same. (
      c,
      ap (cited clauses m.steps) (sym (same_Some conflict h same)) ∙ ap (λ ss. cited clauses ss conflict) t.steps ∙ t.named,
      subst (λ n. IsUnit assumptions m.entries.items c (literal_of n (not e.value))) (sym count) (subst (λ xs. IsUnit assumptions xs c (literal_of p (not e.value))) (sym t.entries) unit),
    ) in (
      search_push clauses assumptions m u d (top_search clauses assumptions s m p e conflict c t) atoms steps (omega (arith, count, t.size, t.search.within, t.atoms)) turned.0 reason
          (λ l inside at_k. absurd (All-contains (λ x. x.atom ≢ length m.entries.items) assumptions l turned.1 inside at_k)),
      record {
        place = p;
        before = e;
        after = d;
        reason = conflict;
        at = t.at;
        chosen = chosen;
        turned = refl;
        grown = turned.0 ∙ ap (λ xs. xs ++ d ∷ []) t.entries;
      },
    )

-- what a result says of its Ok
pub both_ok : {E : Type 0} (r : Result (Option Hint) E) (P Q R : Option Hint → Type 0) → ((found : Option Hint) → P found → Q found → R found) → IfOk r P → IfOk r Q → IfOk r R
both_ok (Ok x) P Q R f p q = f x p q
both_ok (Err e) P Q R f p q = tt

pub on_ok : {E : Type 0} (r : Result (Option Hint) E) (A : Type 0) → IfOk r (λ found. A) → OnOk r A
on_ok (Ok x) A h = h
on_ok (Err e) A h = tt

-- a choice that was turned earlier
pub turns_from : (first old new : List Entry) → old ≡ take (length old) first → Turns old new → Turns first new
turns_from first old new is t =
    let at = slice_get_take first (length old) t.place t.before (sym (ap (λ xs. slice_get xs t.place) is) ∙ t.at) in
    record {
      place = t.place;
      before = t.before;
      after = t.after;
      reason = t.reason;
      at = at.0;
      chosen = t.chosen;
      turned = t.turned;
      grown = t.grown ∙ ap (λ xs. take t.place xs ++ t.after ∷ []) is ∙ ap (λ xs. xs ++ t.after ∷ []) (take_of_take first (length old) t.place (omega (arith, at.1)));
    }

pub turn_advances : (old new : Search) → length old.entries.items ≤ old.atoms → new.atoms ≡ old.atoms → Turns old.entries.items new.entries.items → Advances old new
turn_advances old new room atoms t = record {
  atoms = atoms;
  risen = subst (λ xs. weight old.atoms old.entries.items < weight old.atoms xs) (sym t.grown) (weight_flip old.atoms old.entries.items t.place t.before t.after t.reason room t.at t.chosen t.turned);
}

-- a conflict of assumptions alone
pub refuted : (clauses : List (List (Signed ℕ))) (assumptions core : List (Signed ℕ)) (n : ℕ) (steps : List Step) (conflict : Hint) (c : List (Signed ℕ)) → AreGood clauses n steps → AtomsBelow n assumptions → cited clauses steps conflict ≡ Some c → All (IsOpposed assumptions []) c
    → IsSubList core assumptions → All (λ l. Contains c (complement l) → Contains core l) assumptions → IsCore clauses assumptions core n (steps ++ (record { clause = map complement core; hints = conflict ∷ [] }) ∷ [])
refuted clauses assumptions core n steps conflict c good low named all within whole =
    let F = map complement core in
    let s : Step = record { clause = F; hints = conflict ∷ [] } in
    let closes : Closes F (Some c) [] = All-from_contained (Contains F) c (λ m inside. by_case m inside (All-contains (IsOpposed assumptions []) c m all inside)) in
    let below : AtomsBelow n F = All-map (λ x. x.atom < n) complement core (All-weaker (Contains assumptions) (λ x. x.atom < n) (λ x k. All-contains (λ y. y.atom < n) assumptions x low k) core (sub_contains core assumptions within)) in
    record {
      within = within;
      good = good_push clauses n steps s good (subst (λ o. Closes F o []) (sym named) closes) (λ none. cc) below;
      last = ends_with_push steps s;
    }
  where
    by_case : (m : Signed ℕ) → Contains c m → IsOpposed assumptions [] m → Contains (map complement core) m
    by_case m inside (inl f) = absurd (none-some f.0 f.1)
    by_case m inside (inr assumed) =
        let there = All-contains (λ l. Contains c (complement l) → Contains core l) assumptions (complement m) whole assumed (subst (Contains c) (sym (complement_twice m)) inside) in
        subst (Contains (map complement core)) (complement_twice m) (contains_map complement core (complement m) there)

-- a choice, or an assumed value
pub value_follows : (assumptions : List (Signed ℕ)) (k : ℕ) (o : Option Bool) (v : Bool) (reason : Option Hint) → AreConsistent assumptions → v ≡ unwrap_or o false → IfSome o (λ b. Contains assumptions (literal_of k b)) → IfNone o (All (λ l. l.atom ≢ k) assumptions) → Follows assumptions k (record { value = v; reason = reason })
value_follows assumptions k None v reason consistent is some none l inside here = absurd (All-contains (λ x. x.atom ≢ k) assumptions l none inside here)
value_follows assumptions k (Some b) v reason consistent is some none l inside here = is ∙ same_sign b l.positive refl refl
  where
    clash : (p q : Bool) → l.positive ≡ q → p ≡ b → p ≡ not q → ⊥
    clash p q e f other =
        let is_l : l ≡ literal_of k q = made l k q here e in
        let is_other : literal_of k b ≡ complement l = ap (literal_of k) (sym f ∙ other) ∙ sym (ap complement is_l) in
        All-contains (λ m. m ≢ complement l) assumptions (literal_of k b) (All-contains (λ x. All (λ m. m ≢ complement x) assumptions) assumptions l consistent inside) some is_other

    same_sign : (p q : Bool) → l.positive ≡ q → p ≡ b → p ≡ q
    same_sign true true e f = refl
    same_sign false false e f = refl
    same_sign true false e f = absurd (clash true false e f refl)
    same_sign false true e f = absurd (clash false true e f refl)

pub extended : (clauses : List (List (Signed ℕ))) (assumptions : List (Signed ℕ)) (s t : Search) (v : Bool) → IsSearch clauses assumptions s → t.atoms ≡ s.atoms → t.steps ≡ s.steps → (length s.entries.items ≡ s.atoms → ⊥) → t.entries.items ≡ s.entries.items ++ (record { value = v; reason = None }) ∷ []
    → Follows assumptions (length s.entries.items) (record { value = v; reason = None }) → IsSearch clauses assumptions t × Advances s t
extended clauses assumptions s t v w atoms steps more is follows =
    let d : Entry = record { value = v; reason = None } in
    let room : length s.entries.items < s.atoms = omega (arith, w.within, more) in (
      search_push clauses assumptions s t d w atoms steps room is (λ h same. absurd (none-some h same)) follows,
      record { atoms = atoms; risen = subst (λ xs. weight s.atoms s.entries.items < weight s.atoms xs) (sym is) (weight_push s.atoms s.entries.items d room) },
    )

-- a whole valuation
entry_value : (es : List Entry) (l : Signed ℕ) (e : Entry) → slice_get es l.atom ≡ Some e → e.value ≡ l.positive → IsTrueLiteral (IsHeld (map (λ x. x.value) es)) l
entry_value es l e at same = by_sign l.positive (slice_get-map (λ x. x.value) es l.atom ∙ ap (option_map (λ (x : Entry). x.value)) at ∙ ap Some same)
  where
    by_sign : (p : Bool) → slice_get (map (λ x. x.value) es) l.atom ≡ Some p → signed p (IsHeld (map (λ x. x.value) es) l.atom)
    by_sign true g = g
    by_sign false g = λ h. false≢true (same_Some false true (sym g ∙ h))

entry_at : (es : List Entry) (k : ℕ) → k < length es → (e : Entry) × (slice_get es k ≡ Some e)
entry_at es k h = let d : Entry = record { value = false; reason = None } in (get_or es k d, slice_get-get_or es k d h)

pub satisfied : (clauses : List (List (Signed ℕ))) (assumptions : List (Signed ℕ)) (s : Search) (valuation : List Bool) → IsSearch clauses assumptions s → AllAtomsBelow s.atoms clauses → AtomsBelow s.atoms assumptions → length s.entries.items ≡ s.atoms → All (HasRest s.entries.items) clauses
    → valuation ≡ map (λ x. x.value) s.entries.items → Satisfies s.atoms clauses assumptions valuation
satisfied clauses assumptions s valuation v below low full rest same =
    let es = s.entries.items in
    let held = map (λ (x : Entry). x.value) es in
    subst (Satisfies s.atoms clauses assumptions) (sym same)
    (record {
      within = omega (arith, length-map es (λ x. x.value), full);
      makes_true = record {
        clauses_true = All-from_contained (IsTrueClause (IsHeld held)) clauses (λ c k.
            let r = All-contains (HasRest es) clauses c rest k in
            let under : r.0.atom < length es = omega (arith, full, All-contains (λ l. l.atom < s.atoms) c r.0 (All-contains (AtomsBelow s.atoms) clauses c below k) r.1) in
            let e = entry_at es r.0.atom under in
            (r.1.0, r.0, r.1.1, r.1.2, entry_value es r.0 e.0 e.1 (signs e.0.value r.0.positive (λ g. r.2 (e.0, e.1, g)))));
        assumptions_true = All-from_contained (IsTrueLiteral (IsHeld held)) assumptions (λ l inside.
            let under : l.atom < length es = omega (arith, full, All-contains (λ x. x.atom < s.atoms) assumptions l low inside) in
            let e = entry_at es l.atom under in
            entry_value es l e.0 e.1 (v.follows l.atom e.0 e.1 l inside refl));
      };
    })
  where
    signs : (b p : Bool) → (b ≡ not p → ⊥) → b ≡ p
    signs true true k = refl
    signs true false k = absurd (k refl)
    signs false true k = absurd (k refl)
    signs false false k = refl

-- the loop ends
pub risen_falls : (old new : Search) → length old.entries.items ≤ old.atoms → length new.entries.items ≤ new.atoms → Advances old new → 3 ^ new.atoms - weight new.atoms new.entries.items < 3 ^ old.atoms - weight old.atoms old.entries.items
risen_falls old new h g a =
    let n = old.atoms in
    let below = weight_below n old.entries.items h in
    let above = weight_below n new.entries.items (omega (arith, g, a.atoms)) in
    let falls : 3 ^ n - weight n new.entries.items < 3 ^ n - weight n old.entries.items = omega (arith, below, above, a.risen) in
    subst (λ k. 3 ^ k - weight k new.entries.items < 3 ^ n - weight n old.entries.items) (sym a.atoms) falls

pub nothing_good : (clauses : List (List (Signed ℕ))) (assumptions : List (Signed ℕ)) (s : Search) → s.entries.items ≡ [] → s.steps ≡ [] → IsSearch clauses assumptions s
nothing_good clauses assumptions s entries steps = record {
  within = omega (arith, ap length entries);
  reasons = λ k e at. absurd (none-some e (sym (ap (λ xs. slice_get xs k) entries) ∙ at));
  follows = λ k e at. absurd (none-some e (sym (ap (λ xs. slice_get xs k) entries) ∙ at));
  steps = subst (AreGood clauses s.atoms) (sym steps) (good_none clauses s.atoms);
}

pub no_entries : (es : List Entry) → length es ≤ 0 → es ≡ []
no_entries [] h = refl
no_entries (e ∷ es) h = absurd (omega arith)

pub not_ended : (clauses : List (List (Signed ℕ))) (assumptions : List (Signed ℕ)) (old new : Search) (found : Option Outcome) → ((o : Outcome) → found ≡ Some o → ⊥) → Continues clauses assumptions old new found → IsSearch clauses assumptions new × Advances old new
not_ended clauses assumptions old new None goes c = c
not_ended clauses assumptions old new (Some o) goes c = absurd (goes o refl)
