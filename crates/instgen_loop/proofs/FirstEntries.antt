-- The first entries, one after the other, and what holds when all were made.
use Rattle.std.proofs.Common.{◌≡◌, ◌⊎◌, inl, inr, ℕ, zero, suc, ◌+◌, ◌<◌, ◌≤◌, List, [], ◌∷◌, ◌++◌, refl, sym, ap, ap₂, ◌∙◌, subst as transport, map, take, get_or, slice_get, Some, length, length-append, append_assoc, arith, All, Contains}
use Rattle.std.proofs.lemmas.List.{take_more, length-take-le}
use Rattle.std.proofs.lemmas.List.Folds.{list_all-append}
use Rattle.std.proofs.lemmas.List.Elements.{All-push}
use Rattle.std.proofs.lemmas.Option.{get_or_from_slice_get}
use Rattle.inst_logic.specs.declared.symbol.Sym.{Sym}
use Rattle.inst_logic.specs.declared.signed.Signed.{Signed}
use Rattle.inst_logic.specs.Signed.{IsTautology}
use Rattle.inst_logic.specs.Clauses.{TreeClause, canonical_form, IsCanonical}
use Rattle.inst_logic.specs.WellFormed.{IsFormedClause, AreFormedClauses, clause_is_formed}
use Rattle.std.specs.List.{list_all}
use Rattle.inst_logic.proofs.SameLemmas.{and_right}
use Rattle.inst_calculus.specs.Axioms.{equality_axioms}
use Rattle.inst_calculus.proofs.EqualityAxioms.{with_axioms_formed}
use Rattle.inst_calculus.specs.Entries.{Entry, entry_clauses, input}
use Rattle.inst_calculus.proofs.Membership.{◌∈◌, contains_in, in_contains, in_all, all_in, in_map, from_map}
use Rattle.inst_calculus.proofs.Distinct.{map_append, length_map}
use Rattle.inst_calculus.proofs.Items.{slice_get_below}
use Rattle.cert_format.specs.Printable.{IsPrintableClause}
use Rattle.inst_machine.specs.Machine.{IsFirst}
use Rattle.inst_machine.proofs.Prolonged.{first_passed_over, first_taken}
use Rattle.term_bank.specs.Forest.{Forest, AreDistinct, Extends, IsClauseOf, IsClauseAt, clause_at}
use Rattle.term_bank.proofs.Clauses.{clause_extends, clauses_extend}
use Rattle.clause_form.proofs.Ids.{same_ids}
use Rattle.cert_values.specs.declared.member.Origin.TheVariants.{Input}
use Rattle.cert_values.specs.Values.{origin_of}
use Rattle.cert_values.specs.Wholes.{IsWholeClause}
use Rattle.instgen_run.specs.declared.state.Run.{Run}
use Rattle.instgen_run.specs.Clauses.{Item, AreEntries, entries_in, clauses_in}
use Rattle.instgen_run.specs.Grounds.{IsLinked}
use Rattle.instgen_run.specs.Loops.{items, after, KeepsLink, Appends}
use Rattle.instgen_run.specs.Running.{entries_of}
use Rattle.instgen_run.specs.Marks.{inferred, origins_of}
use Rattle.instgen_run.proofs.Logged.{input_told}
use Rattle.instgen_loop.specs.FirstEntries.{IsStarted}
use Rattle.instgen_loop.specs.Starting.{AreGiven}
use Rattle.instgen_run.proofs.Grown.{whole_at, whole_kept, entries_stay}
use Rattle.instgen_run.proofs.Works.{after_more}

-- Clauses in the bank

pub given_grown : (f g : Forest) → Extends f g → (ids : List (List (Signed ℕ))) (cs : List TreeClause) → AreGiven f ids cs → AreGiven g ids cs
given_grown f g grown ids cs h = record {
  whole = in_all (IsWholeClause g) ids (λ c i. whole_kept f g grown c (all_in (IsWholeClause f) ids h.whole c i));
  same = clauses_extend f g grown ids (λ c i. let w = all_in (IsWholeClause f) ids h.whole c i in w.ids) ∙ h.same;
}

pub one_more_given : (f g : Forest) → Extends f g → (ids : List (List (Signed ℕ))) (c : List (Signed ℕ)) (trees : List TreeClause) (i : ℕ) (d : TreeClause) → AreGiven f ids (take i trees)
    → i < length trees → d ≡ get_or trees i d → IsClauseAt g c d → IsFormedClause d → AreGiven g (ids ++ c ∷ []) (take (i + 1) trees)
one_more_given f g grown ids c trees i d h within is at formed =
    let later = given_grown f g grown ids (take i trees) h in
    record {
      whole = All-push (IsWholeClause g) ids c later.whole (whole_at g c d at formed);
      same = map_append (clause_at g) ids (c ∷ []) ∙ ap₂ (λ xs x. xs ++ x ∷ []) later.same (at.1 ∙ is) ∙ sym (take_more trees i d within);
    }

-- Entries

abbrev entry_in : Forest → Item → Entry
entry_in f e = record { clause = clause_at f e.0; origin = origin_of e.1 }

pub known_clause : (f : Forest) (es : List Item) (d : List (Signed ℕ)) (e : Item) → Contains es e → e.0 ≡ d → IsCanonical (clause_at f d) → Contains (entry_clauses (entries_in f es)) (canonical_form (clause_at f d))
known_clause f es d e i q canonical =
    transport (Contains (entry_clauses (entries_in f es))) (ap (clause_at f) q ∙ sym canonical)
    (in_contains (clause_at f e.0) (entry_clauses (entries_in f es)) (in_map (λ (x : Entry). x.clause) (entry_in f e) (entries_in f es) (in_map (entry_in f) e es (contains_in e es i))))

pub new_clause : (f : Forest) (es : List Item) (d : List (Signed ℕ)) → AreDistinct f.trees → AreEntries f es → IsClauseOf f d → IsCanonical (clause_at f d) → ((e : Item) → Contains es e → ¬ (e.0 ≡ d))
    → ¬ Contains (entry_clauses (entries_in f es)) (canonical_form (clause_at f d))
new_clause f es d distinct entries within canonical no_key i =
    let (x, j, p) = from_map (λ (x : Entry). x.clause) (canonical_form (clause_at f d)) (entries_in f es) (contains_in (canonical_form (clause_at f d)) (entry_clauses (entries_in f es)) i) in
    let (e, k, q) = from_map (entry_in f) x es j in
    no_key e (in_contains e es k) (same_ids f distinct e.0 d (all_in (λ (y : Item). IsClauseOf f y.0) es entries.ids e k) within (ap (λ (y : Entry). y.clause) q ∙ p ∙ canonical))

after_last : (n : ℕ) → after 0 n ++ suc n ∷ [] ≡ after 0 (n + 1)
after_last n = sym (after_more 0 n 1 ∙ ap (λ k. after 0 n ++ suc k ∷ []) (let e : 0 + n ≡ n = omega arith in e))

module _ {S I C : Type 0} (atoms : S → ℕ) (added : S → List (List (Signed ℕ))) where
  pub passes_over : (r : Run S I C) (cs : List TreeClause) (c : TreeClause) → IsTautology c ⊎ Contains (entry_clauses (entries_of r)) (canonical_form c) → IsStarted atoms added r cs → IsStarted atoms added r (cs ++ c ∷ [])
  passes_over r cs c u h = record {
    first = first_passed_over 1 cs [] (entries_of r) c h.first u;
    linked = h.linked;
    waits = h.waits;
    valuation = h.valuation;
    selection = h.selection;
    held = h.held;
    log = h.log;
    inputs = h.inputs;
  }

  pub takes : (old new : Run S I C) (d : List (Signed ℕ)) (k : ℕ) (cs : List TreeClause) → Appends old new d (Input k) → KeepsLink atoms added old new → AreEntries old.entries.bank (items old)
      → IsClauseOf old.entries.bank d → IsCanonical (clause_at old.entries.bank d) → ¬ IsTautology (clause_at old.entries.bank d)
      → ¬ Contains (entry_clauses (entries_of old)) (canonical_form (clause_at old.entries.bank d)) → k ≡ length cs + 1
      → IsStarted atoms added old cs → IsStarted atoms added new (cs ++ clause_at old.entries.bank d ∷ [])
  takes old new d k cs m link entries within canonical no_tautology no_variant number h = record {
    first = transport (IsFirst 1 (cs ++ clause_at old.entries.bank d ∷ []) []) (sym same) (first_taken 1 cs [] (entries_of old) (clause_at old.entries.bank d) h.first no_tautology no_variant);
    linked = transport (λ (b : Sym). IsLinked new.entries.bank new.ground (atoms new.ground.solver) (added new.ground.solver) b (clauses_in new.entries.bank (items new))) (sym m.bot) (link old.ground.abstraction.bot h.linked);
    waits = m.waits ∙ ap (λ xs. xs ++ suc (length (items old)) ∷ []) h.waits ∙ after_last (length (items old)) ∙ ap (after 0) (sym longer);
    valuation = m.valuation ∙ h.valuation;
    selection = m.selection ∙ h.selection;
    held = m.held ∙ h.held;
    log = m.log ∙ h.log;
    inputs = ap (λ (es : List Item). inferred (origins_of es)) m.entry ∙ input_told (items old) d k ∙ h.inputs;
  }
    where
      longer : length (items new) ≡ length (items old) + 1
      longer = ap length m.entry ∙ length-append (items old) ((d, Input k) ∷ [])

      last : entry_in new.entries.bank (d, Input k) ≡ record { clause = canonical_form (clause_at old.entries.bank d); origin = input (1 + length cs) }
      last = ap₂ (λ (c : TreeClause) (n : ℕ). record { clause = c; origin = input n }) (clause_extends old.entries.bank new.entries.bank m.bank d within ∙ sym canonical) (omega (arith, number))

      same : entries_of new ≡ entries_of old ++ record { clause = canonical_form (clause_at old.entries.bank d); origin = input (1 + length cs) } ∷ []
      same =
          ap (entries_in new.entries.bank) m.entry ∙ map_append (entry_in new.entries.bank) (items old) ((d, Input k) ∷ [])
          ∙ ap₂ (λ (xs : List Entry) (x : Entry). xs ++ x ∷ []) (entries_stay old.entries.bank new.entries.bank m.bank (items old) (λ x i. all_in (λ (y : Item). IsClauseOf old.entries.bank y.0) (items old) entries.ids x i)) last

item_in : {X : Type 0} (xs : List X) (i : ℕ) (d : X) → i < length xs → get_or xs i d ∈ xs
item_in [] i d within = absurd (omega arith)
item_in (x ∷ xs) zero d within = inl refl
item_in (x ∷ xs) (suc i) d within = inr (item_in xs i d (omega arith))

-- the next clause of a list
pub next_clause : (f g : Forest) → Extends f g → (cs : List TreeClause) (xs : List (List (Signed ℕ))) (i : ℕ) (d : List (Signed ℕ)) → IsClauseOf f d → i < length xs → d ≡ get_or xs i d
    → (cs ++ map (clause_at f) (take i xs)) ++ clause_at g d ∷ [] ≡ cs ++ map (clause_at f) (take (i + 1) xs)
next_clause f g grown cs xs i d ids within is =
    let e : (cs ++ map (clause_at f) (take i xs)) ++ clause_at g d ∷ [] ≡ cs ++ (map (clause_at f) (take i xs) ++ clause_at g d ∷ []) = simp append_assoc in
    e
    ∙ ap (λ ys. cs ++ ys)
    (ap (λ (x : TreeClause). map (clause_at f) (take i xs) ++ x ∷ []) (clause_extends f g grown d ids ∙ ap (clause_at f) is)
    ∙ sym (map_append (clause_at f) (take i xs) (get_or xs i d ∷ [])) ∙ ap (map (clause_at f)) (sym (take_more xs i d within)))

pub taken_count : (f : Forest) (cs : List TreeClause) (xs : List (List (Signed ℕ))) (before i k : ℕ) → before ≡ length cs → i < length xs → k ≡ before + i + 1 → k ≡ length (cs ++ map (clause_at f) (take i xs)) + 1
taken_count f cs xs before i k b within e =
    let l : length (cs ++ map (clause_at f) (take i xs)) ≡ length cs + i = length-append cs (map (clause_at f) (take i xs)) ∙ ap (λ n. length cs + n) (length_map (clause_at f) (take i xs) ∙ length-take-le i xs (omega arith)) in
    omega arith

pub whole_item : (f : Forest) (xs : List (List (Signed ℕ))) (i : ℕ) (d : List (Signed ℕ)) → All (IsWholeClause f) xs → i < length xs → d ≡ get_or xs i d → IsWholeClause f d
whole_item f xs i d h within is = transport (IsWholeClause f) (sym is) (h i d within)

pub whole_after : (f : Forest) (xs : List (List (Signed ℕ))) (i : ℕ) (d : List (Signed ℕ)) → All (IsWholeClause f) xs → slice_get xs i ≡ Some d → IsWholeClause f d
whole_after f xs i d h at = whole_item f xs i d h (slice_get_below xs i d at) (sym (get_or_from_slice_get xs i d d at))

pub bounded_item : (xs : List (List (Signed ℕ))) (i : ℕ) (d : List (Signed ℕ)) (n : ℕ) → All (λ c. length c ≤ n) xs → i < length xs → d ≡ get_or xs i d → length d ≤ n
bounded_item xs i d n h within is = transport (λ (c : List (Signed ℕ)). length c ≤ n) (sym is) (h i d within)

pub canonical_item : (f : Forest) (xs : List (List (Signed ℕ))) (i : ℕ) (d : List (Signed ℕ)) → All IsCanonical (map (clause_at f) xs) → i < length xs → d ≡ get_or xs i d → IsCanonical (clause_at f d)
canonical_item f xs i d h within is =
    transport (λ (x : List (Signed ℕ)). IsCanonical (clause_at f x)) (sym is)
    (all_in IsCanonical (map (clause_at f) xs) h (clause_at f (get_or xs i d)) (in_map (clause_at f) (get_or xs i d) xs (item_in xs i d within)))

-- what bounds the lengths may be greater
pub bounds_grow : (cs : List (List (Signed ℕ))) (m n : ℕ) → m ≤ n → All (λ c. length c ≤ m) cs → All (λ c. length c ≤ n) cs
bounds_grow cs m n l h = in_all (λ (c : List (Signed ℕ)). length c ≤ n) cs (λ c i. let k : length c ≤ m = all_in (λ (d : List (Signed ℕ)). length d ≤ m) cs h c i in omega arith)

-- the axioms of well-formed clauses are so
pub axioms_formed : (cs : List TreeClause) → AreFormedClauses cs → AreFormedClauses (equality_axioms cs)
axioms_formed cs h = and_right (list_all clause_is_formed cs) (list_all clause_is_formed (equality_axioms cs)) (sym (list_all-append clause_is_formed cs (equality_axioms cs)) ∙ with_axioms_formed cs h)

pub given_canonical : (f : Forest) (ids : List (List (Signed ℕ))) (cs : List TreeClause) → AreGiven f ids cs → All IsCanonical cs → All IsCanonical (map (clause_at f) ids)
given_canonical f ids cs h c = transport (All IsCanonical) (sym h.same) c

pub printable_canonical : (cs : List TreeClause) → All IsPrintableClause cs → All IsCanonical cs
printable_canonical cs h = in_all IsCanonical cs (λ c i. (all_in IsPrintableClause cs h c i).canonical)
