-- What a run knows of its solver, and what a question to it changes.
use Rattle.std.proofs.Common.{◌≡◌, ℕ, suc, ◌<◌, List, [], ◌∷◌, refl, sym, ap, ap₂, ◌∙◌, subst as transport, map, length, Bool, true, false, All, Contains, Some, None, Option, ◌≤◌}
use Rattle.std.specs.Prelude.{slice_get, IfSome, IfNone}
use Rattle.inst_logic.specs.declared.symbol.Sym.{Sym}
use Rattle.inst_logic.specs.declared.signed.Signed.{Signed}
use Rattle.inst_logic.specs.Tree.{Tree}
use Rattle.inst_logic.specs.Derivations.{at_number}
use Rattle.inst_logic.specs.Clauses.{TreeClause}
use Rattle.inst_logic.specs.Substitution.{subst_literal}
use Rattle.inst_logic.specs.Truth.{IsTrueLiteral, IsTrueClause}
use Rattle.inst_logic.proofs.ShownLaws.{at_number_contains}
use Rattle.inst_calculus.specs.Abstraction.{grounding, named_literal, abstract_literals, AreAbstracted}
use Rattle.inst_calculus.specs.Entries.{Entry, entry_clauses}
use Rattle.inst_calculus.proofs.Membership.{all_in, contains_in}
use Rattle.inst_calculus.proofs.Distinct.{length_map}
use Rattle.inst_machine.specs.Machine.{change_all}
use Rattle.cert_format.proofs.Numbers.{slice_get_of_map}
use Rattle.prop_logic.specs.declared.solver.Answer.{Answer}
use Rattle.prop_logic.specs.declared.solver.Answer.TheVariants.{Sat, Unsat}
use Rattle.prop_logic.specs.declared.literal.Step.{Step}
use Rattle.prop_logic.specs.Literal.{AllAtomsBelow}
use Rattle.prop_logic.specs.Solving.{IsAnswer, Refutes, Satisfies}
use Rattle.prop_logic.specs.Valuation.{IsHeld}
use Rattle.prop_logic.proofs.SearchLaws.{no_core}
use Rattle.engine_laws.proofs.Bits.{literal_is_as_true}
use Rattle.term_bank.specs.Forest.{Forest, tree_at}
use Rattle.term_index.specs.Pairs.{Posting}
use Rattle.ground_abs.specs.Abstracts.{atoms_in}
use Rattle.instgen_run.specs.declared.state.Run.{Run}
use Rattle.instgen_run.specs.declared.queue.Partners.{Partners}
use Rattle.instgen_run.specs.Clauses.{Item, clauses_in}
use Rattle.instgen_run.specs.Loops.{items, IsStored, IsSigned}
use Rattle.instgen_run.specs.Running.{IsRunning, IsRunningFor, IsRunningWith, KeepsTruth, entries_of}
use Rattle.instgen_run.specs.Settling.{IsOrderly, IsGrounded, IsSomeRun}
use Rattle.instgen_run.specs.Solves.{IsTruePlace, Solves}
use Rattle.instgen_run.proofs.Asked.{satisfied}
use Rattle.instgen_run.proofs.Inferred.{same_clauses}
use Rattle.instgen_run.proofs.Solved.{from_map_number, running_solved}
use Rattle.instgen_run.proofs.Works.{slice_get_map, at_number_map}

-- As many literals

same_lengths : {A B C : Type 0} (g : A → C) (h : B → C) (xs : List (List A)) (ys : List (List B)) → map (map g) xs ≡ map (map h) ys → map (λ (x : List A). length x) xs ≡ map (λ (y : List B). length y) ys
same_lengths g h [] [] e = refl
same_lengths g h [] (y ∷ ys) e = absurd (cc e)
same_lengths g h (x ∷ xs) [] e = absurd (cc e)
same_lengths g h (x ∷ xs) (y ∷ ys) e =
    let first : map g x ≡ map h y = cc e in
    let rest : map (map g) xs ≡ map (map h) ys = cc e in
    ap₂ (λ n ns. n ∷ ns) (sym (length_map g x) ∙ ap length first ∙ length_map h y) (same_lengths g h xs ys rest)

entry_lengths : (f : Forest) (es : List Item) → map (λ (c : TreeClause). length c) (clauses_in f es) ≡ map (λ (e : Item). length e.0) es
entry_lengths f [] = refl
entry_lengths f (e ∷ es) = ap₂ (λ n ns. n ∷ ns) (length_map (λ (l : Signed ℕ). record { positive = l.positive; atom = tree_at f l.atom }) e.0) (entry_lengths f es)

-- what the machine knows of places, by the bits

true_by_bits : {S I C : Type 0} (atoms : S → ℕ) (added : S → List (List (Signed ℕ))) (r : Run S I C) (bot : Sym) (cs : List TreeClause) (budget : ℕ) (v : List Tree) (b : Bool) → IsRunning atoms added r bot cs budget v b
    → (i : ℕ) → i < length r.selection.places → IsTruePlace r.ground.literals r.selection.places r.ground.valuation i
true_by_bits atoms added r bot cs budget v b h i l =
    let f = r.entries.bank in
    let trees = atoms_in f r.ground.abstraction.ids in
    let (m, p, t) = h.places.placed i l in
    let same : AreAbstracted bot trees r.ground.literals (entry_clauses (entries_of r)) = transport (AreAbstracted bot trees r.ground.literals) (sym (same_clauses f (items r))) h.linked.same in
    let at_clause : slice_get (map (abstract_literals bot) (entry_clauses (entries_of r))) i ≡ Some (abstract_literals bot p.entry.clause) =
    slice_get_map (abstract_literals bot) (entry_clauses (entries_of r)) i p.entry.clause (slice_get_map (λ (x : Entry). x.clause) (entries_of r) i p.entry p.entry_at) in
    let (c, at, q) = slice_get_of_map (map (named_literal trees)) r.ground.literals i (abstract_literals bot p.entry.clause) (ap (λ xs. slice_get xs i) same.same ∙ at_clause) in
    let named : at_number (map (named_literal trees) c) p.place ≡ Some (subst_literal (grounding bot) m.selected) =
    ap (λ xs. at_number xs p.place) q ∙ at_number_map (subst_literal (grounding bot)) p.entry.clause p.place m.selected p.selected in
    let (k, here, e) = from_map_number (named_literal trees) c p.place (subst_literal (grounding bot) m.selected) named in
    let below : k.atom < length trees = all_in (λ (x : Signed ℕ). x.atom < length trees) c
    (all_in (λ c. All (λ (x : Signed ℕ). x.atom < length trees) c) r.ground.literals same.below c (contains_in c r.ground.literals (at_number_contains r.ground.literals (suc i) c at))) k (contains_in k c (at_number_contains c p.place k here)) in
    record {
      clause = c;
      place = p.place;
      clause_at = at;
      place_at = p.place_at;
      holds = (k, here, (literal_is_as_true trees r.ground.valuation v k h.linked.fits.atoms h.bits below).1 (transport (IsTrueLiteral (Contains v)) (sym e) t));
    }

pub run_grounded : {S I C : Type 0} (atoms : S → ℕ) (added : S → List (List (Signed ℕ))) (r : Run S I C) → IsSomeRun atoms added r → IsGrounded added r
run_grounded atoms added r (cs, budget, k) =
    let (bot, v, b, h) = k in
    let f = r.entries.bank in
    let trees = atoms_in f r.ground.abstraction.ids in
    record {
      lengths = same_lengths (named_literal trees) (subst_literal (grounding bot)) r.ground.literals (clauses_in f (items r)) h.linked.same.same ∙ entry_lengths f (items r);
      given = h.linked.given;
      below = transport (λ n. AllAtomsBelow n r.ground.literals) (length_map (tree_at f) r.ground.abstraction.ids) h.linked.same.below;
      width = h.width;
      true_places = true_by_bits atoms added r bot cs budget v b h;
    }

-- A solver that was asked

module _ {S I C : Type 0} (atoms : S → ℕ) (added : S → List (List (Signed ℕ))) (r : Run S I C) (s : S) (same_atoms : atoms s ≡ atoms r.ground.solver) (same_added : added s ≡ added r.ground.solver) where
  abbrev pub asked : Run S I C
  asked = record r { ground = record r.ground { solver = s } }

  pub asked_running : (bot : Sym) (cs : List TreeClause) (budget : ℕ) (v : List Tree) (b : Bool) → IsRunning atoms added r bot cs budget v b → IsRunning atoms added asked bot cs budget v b
  asked_running bot cs budget v b h = record {
    events = h.events;
    logged = h.logged;
    replays = h.replays;
    linked = record { constant = h.linked.constant; fits = h.linked.fits; count = same_atoms ∙ h.linked.count; given = same_added ∙ h.linked.given; same = h.linked.same; used = h.linked.used };
    bits = h.bits;
    width = h.width;
    places = h.places;
    left = h.left;
    light = h.light;
    free = h.free;
    budgeted = h.budgeted;
    none_held = h.none_held;
    held = h.held;
  }

  pub asked_some : (cs : List TreeClause) (budget : ℕ) → IsRunningFor atoms added r cs budget → IsRunningFor atoms added asked cs budget
  asked_some cs budget (bot, v, b, h) = (bot, v, b, asked_running bot cs budget v b h)

  pub asked_with : (bot : Sym) (cs : List TreeClause) (budget : ℕ) → IsRunningWith atoms added r bot cs budget → IsRunningWith atoms added asked bot cs budget
  asked_with bot cs budget (v, b, h) = (v, b, asked_running bot cs budget v b h)

  pub asked_grounded : IsSomeRun atoms added r → IsGrounded added asked
  asked_grounded (cs, budget, h) = run_grounded atoms added asked (cs, budget, asked_some cs budget h)

  stored_in : (q : Posting) → IsStored r q → IsStored asked q
  stored_in q (a, b, c) = (a, b, record { item = c.item; place = c.place; literal = c.literal; item_at = c.item_at; place_at = c.place_at; literal_at = c.literal_at; atom = c.atom })

  signed_in : (n : ℕ) (b : Bool) → IsSigned r n b → IsSigned asked n b
  signed_in n b (l, c, e) = (l, record { item = c.item; place = c.place; item_at = c.item_at; place_at = c.place_at; literal_at = c.literal_at }, e)

  pub asked_orderly : (pairs : I → List Posting) (fits : Forest → I → Type 0) (p : Partners I C) → IsOrderly atoms pairs fits r p → IsOrderly atoms pairs fits asked p
  asked_orderly pairs fits p h = record {
    safe = record {
      entries = h.safe.entries;
      firsts = h.safe.firsts;
      stored = h.safe.stored;
      numbered = h.safe.numbered;
      notes = h.safe.notes;
      known = h.safe.known;
      count = same_atoms ∙ h.safe.count;
      waiting = h.safe.waiting;
      within = h.safe.within;
      placed = h.safe.placed;
    };
    partners = record {
      positive_fits = h.partners.positive_fits;
      negative_fits = h.partners.negative_fits;
      positive_stored = λ q i. stored_in q (h.partners.positive_stored q i);
      negative_stored = λ q i. stored_in q (h.partners.negative_stored q i);
      positive_signed = λ q i. signed_in q.1 true (h.partners.positive_signed q i);
      negative_signed = λ q i. signed_in q.1 false (h.partners.negative_signed q i);
    };
    tended = record { once = h.tended.once; positive = h.tended.positive; apart = h.tended.apart; queued = h.tended.queued; worked = h.tended.worked };
  }

  -- the last valuation satisfies the solver as it is now, where it makes the numbered clauses true
  pub last_satisfies : atoms r.ground.solver ≡ length r.ground.abstraction.ids → IsSomeRun atoms added r → All (IsTrueClause (IsHeld r.ground.valuation)) r.ground.literals → Satisfies (atoms s) (added s) [] r.ground.valuation
  last_satisfies count h hold =
      let g = run_grounded atoms added r h in
      satisfied (atoms s) (added s) r.ground.literals r.ground.valuation (same_added ∙ g.given) (transport (λ n. length r.ground.valuation ≤ n) (sym (same_atoms ∙ count)) g.width) hold

  -- its valuation was taken, or the last one stays
  module _ (new : Run S I C) (bits : List Bool) (satisfies : Satisfies (atoms s) (added s) [] bits) (taken : new.ground.valuation ≡ bits) (flips : List ℕ) (solves : Solves atoms added asked new flips) where
    pub truth_kept : KeepsTruth atoms added r new
    truth_kept bot cs budget v b h = (
      change_all v (map (tree_at r.entries.bank) flips),
      running_solved atoms added asked new flips solves (transport (λ bs. All (IsTrueClause (IsHeld bs)) (added s)) (sym taken) satisfies.makes_true.clauses_true) bot cs budget v b (asked_running bot cs budget v b h),
    )

    pub some_kept : (cs : List TreeClause) (budget : ℕ) → IsRunningFor atoms added r cs budget → IsRunningFor atoms added new cs budget
    some_kept cs budget (bot, v, b, h) = let (w, k) = truth_kept bot cs budget v b h in (bot, w, true, k)

    pub with_kept : (bot : Sym) (cs : List TreeClause) (budget : ℕ) → IsRunningWith atoms added r bot cs budget → IsRunningWith atoms added new bot cs budget
    with_kept bot cs budget (v, b, h) = let (w, k) = truth_kept bot cs budget v b h in (w, true, k)

-- Answers without assumptions

pub unsat_refutes : (n : ℕ) (cs : List (List (Signed ℕ))) (a : Answer) (core : List (Signed ℕ)) (derivation : List Step) → IsAnswer n cs [] a → a ≡ Unsat core derivation → Refutes n cs [] [] derivation
unsat_refutes n cs a core derivation h e =
    let r : Refutes n cs [] core derivation = transport (IsAnswer n cs []) e h in transport (λ c. Refutes n cs [] c derivation) (no_core core r.within) r

pub sat_satisfies : (n : ℕ) (cs : List (List (Signed ℕ))) (a : Answer) (bits : List Bool) → IsAnswer n cs [] a → a ≡ Sat bits → Satisfies n cs [] bits
sat_satisfies n cs a bits h e = transport (IsAnswer n cs []) e h

pub some_answer : (n : ℕ) (cs : List (List (Signed ℕ))) (o : Option Answer) (a : Answer) → IfSome o (IsAnswer n cs []) → o ≡ Some a → IsAnswer n cs [] a
some_answer n cs o a h e = transport (λ o. IfSome o (IsAnswer n cs [])) e h

pub none_holds : (cs : List (List (Signed ℕ))) (o : Option Answer) (bits : List Bool) → IfNone o (All (IsTrueClause (IsHeld bits)) cs) → o ≡ None → All (IsTrueClause (IsHeld bits)) cs
none_holds cs o bits h e = transport (λ o. IfNone o (All (IsTrueClause (IsHeld bits)) cs)) e h
