-- A run without entries, and one with its first.
use Rattle.std.proofs.Common.{◌≡◌, ℕ, suc, ◌<◌, ◌≤◌, List, [], ◌++◌, refl, sym, ap, ◌∙◌, subst as transport, map, length, arith, All, Contains, Bool, true, false, Option, Some, None, IsTrue, IsFalse, not, ◌||◌}
use Rattle.std.proofs.lemmas.List.Elements.{All-nil}
use Rattle.std.specs.Prelude.{slice_get}
use Rattle.inst_logic.specs.declared.symbol.Sym.{Sym}
use Rattle.inst_logic.specs.declared.signed.Signed.{Signed}
use Rattle.std.specs.List.{list_any}
use Rattle.std.proofs.lemmas.List.Folds.{list_any-append}
use Rattle.inst_logic.specs.Measure.{is_function_free, clause_applies}
use Rattle.inst_logic.specs.Clauses.{TreeClause, IsCanonical}
use Rattle.inst_logic.specs.WellFormed.{IsAtom, is_constant}
use Rattle.inst_logic.specs.Printing.{is_readable_name}
use Rattle.inst_calculus.specs.Abstraction.{AreAbstracted, IsBot}
use Rattle.inst_calculus.specs.Axioms.{equality_axioms, with_axioms}
use Rattle.inst_calculus.proofs.EqualityAxioms.{with_axioms_function_free}
use Rattle.inst_calculus.proofs.Items.{slice_get_below, same_item}
use Rattle.inst_calculus.proofs.Membership.{contains_in}
use Rattle.inst_machine.specs.Machine.{IsFirst, all_read}
use Rattle.inst_machine.specs.Replay.{Replays}
use Rattle.inst_machine.specs.Budget.{IsLeft}
use Rattle.inst_machine.proofs.Prolonged.{replay_begins, left_at_first}
use Rattle.engine_laws.specs.Pairs.{IsHeldBack}
use Rattle.prop_logic.specs.Valuation.{IsHeld}
use Rattle.term_bank.specs.Forest.{Forest, AreFormed, Extends, IsClauseOf, clause_at, tree_at}
use Rattle.term_index.specs.Pairs.{Posting}
use Rattle.ground_abs.specs.Abstracts.{AreAtomsIn, AreNotesIn, atoms_in}
use Rattle.instgen_select.specs.Queues.{numbers, Waiting}
use Rattle.instgen_run.specs.declared.event.Event.{Event}
use Rattle.instgen_run.specs.declared.state.Run.{Run}
use Rattle.instgen_run.specs.declared.premises.Premises.{Premises}
use Rattle.instgen_run.specs.Clauses.{Item, AreEntries, AreFirsts, entries_in, clauses_in}
use Rattle.instgen_run.specs.Grounds.{IsUsed}
use Rattle.instgen_run.specs.Loops.{items, after, held_in, IsConsistent}
use Rattle.instgen_run.specs.Logs.{Log}
use Rattle.instgen_run.specs.Marks.{inferred, origins_of, events_of, IsLogOf}
use Rattle.instgen_run.specs.Running.{IsRunning, IsRunningFor, IsRunningWith, IsEventOf, event_in, entries_of, events_so_far, state_of}
use Rattle.instgen_run.specs.Selections.{Placing}
use Rattle.instgen_loop.specs.FirstEntries.{IsStarted}
use Rattle.instgen_loop.specs.Starting.{IsFresh, IsAllowed, IsOfProblem}
use Rattle.instgen_loop.specs.declared.start.Given.{Given}
use Rattle.instgen_loop.proofs.FirstEntries.{given_grown}
use Rattle.instgen_loop.specs.Outcomes.{appended_count}
use Rattle.instgen_loop.proofs.Bounded.{appended_bounded}

-- the run with another bank, another bound of lengths and other first values
abbrev pub with_given : {S I C : Type 0} → Run S I C → Forest → ℕ → List Bool → Run S I C
with_given r g n v = record r { entries = record r.entries { bank = g; longest = n }; ground = record r.ground { first_values = v } }

module _ {S I C : Type 0} (atoms : S → ℕ) (added : S → List (List (Signed ℕ))) (pairs : I → List Posting) where
  -- none of which matters
  pub fresh_interned : (r : Run S I C) (g : Forest) (n : ℕ) (v : List Bool) → AreFormed g → IsFresh atoms added pairs r → IsFresh atoms added pairs (with_given r g n v)
  fresh_interned r g n v formed h = record {
    bank = formed;
    entries = h.entries;
    first = h.first;
    has_empty = h.has_empty;
    ids = h.ids;
    notes = h.notes;
    no_atoms = h.no_atoms;
    none_added = h.none_added;
    literals = h.literals;
    valuation = h.valuation;
    selection = h.selection;
    queue = h.queue;
    held = h.held;
    log = h.log;
    known = h.known;
  }

  fresh_numbered : (r : Run S I C) → IsFresh atoms added pairs r → AreAtomsIn r.entries.bank r.ground.abstraction.ids
  fresh_numbered r h = transport (AreAtomsIn r.entries.bank) (sym h.ids) (record {
    within = All-nil (λ n. n < length r.entries.bank.trees);
    atoms = record {
      once = λ i j a p q. let l = slice_get_below [] i a p in absurd (omega arith);
      formed = λ i a p. let l = slice_get_below [] i a p in absurd (omega arith);
      without_variables = λ i a p. let l = slice_get_below [] i a p in absurd (omega arith);
    };
  })

  pub fresh_safe : (fits : Forest → I → Type 0) → ((f : Forest) (s : I) → pairs s ≡ [] → fits f s) → (r : Run S I C) → IsFresh atoms added pairs r → IsConsistent atoms pairs fits r
  fresh_safe fits empty r h = record {
    entries = transport (AreEntries r.entries.bank) (sym h.entries) (record {
      formed = h.bank;
      ids = All-nil (λ (e : Item). IsClauseOf r.entries.bank e.0);
      atoms = All-nil (λ (e : Item). All (λ l. IsAtom (tree_at r.entries.bank l.atom)) e.0);
      canonical = All-nil (λ (e : Item). IsCanonical (clause_at r.entries.bank e.0));
    });
    firsts = transport (AreFirsts pairs r.entries) (sym h.entries) (record {
      bounded = λ i e p. let m = slice_get_below [] i e p in absurd (omega arith);
      first = λ i e l p q k. let m = slice_get_below [] i e p in absurd (omega arith);
      flagged = λ i e p q. let m = slice_get_below [] i e p in absurd (omega arith);
      below = λ p i. absurd (contains_in p [] (transport (λ ps. Contains ps p) h.first i));
      empty = λ t. let e : false ≡ true = sym h.has_empty ∙ t in absurd cc;
    });
    stored = empty r.entries.bank r.entries.first h.first;
    numbered = fresh_numbered r h;
    notes = transport (AreNotesIn r.entries.bank r.ground.abstraction.bot) (sym h.notes) (λ i k e. absurd cc);
    count = h.no_atoms ∙ sym (ap length h.ids);
    waiting = transport (λ (ws : List Waiting). All (λ n. n ≤ length (items r)) (numbers ws)) (sym h.queue) (All-nil (λ n. n ≤ length (items r)));
    within = let e : length r.selection.places ≡ 0 = ap (λ (s : Placing). length s.places) h.selection in omega arith;
    placed = λ i l. let e : length r.selection.places ≡ 0 = ap (λ (s : Placing). length s.places) h.selection in absurd (omega arith);
    known = h.known ∙ sym (ap (map (λ (e : Item). e.0)) h.entries);
  }

  pub fresh_started : (r : Run S I C) → IsFresh atoms added pairs r → IsStarted atoms added r []
  fresh_started r h = record {
    first = transport (IsFirst 1 [] []) (sym (ap (entries_in r.entries.bank) h.entries)) all_read;
    linked = record {
      constant = refl;
      fits = fresh_numbered r h;
      count = h.no_atoms ∙ sym (ap length h.ids);
      given = h.none_added ∙ sym h.literals;
      used = transport (λ ids. All (IsUsed r.ground.abstraction.bot (clauses_in r.entries.bank (items r))) (atoms_in r.entries.bank ids)) (sym h.ids) (All-nil (IsUsed r.ground.abstraction.bot (clauses_in r.entries.bank (items r))));
      same = transport (λ ls. AreAbstracted r.ground.abstraction.bot (atoms_in r.entries.bank r.ground.abstraction.ids) ls (clauses_in r.entries.bank (items r))) (sym h.literals)
          (transport (λ (es : List Item). AreAbstracted r.ground.abstraction.bot (atoms_in r.entries.bank r.ground.abstraction.ids) [] (clauses_in r.entries.bank es)) (sym h.entries)
          (record { below = All-nil (λ (c : List (Signed ℕ)). All (λ l. l.atom < length (atoms_in r.entries.bank r.ground.abstraction.ids)) c); same = refl }));
    };
    waits = ap (λ (ws : List Waiting). numbers ws) h.queue ∙ sym (ap (λ (es : List Item). after 0 (length es)) h.entries);
    valuation = h.valuation;
    selection = h.selection;
    held = h.held;
    log = h.log;
    inputs = ap (λ (es : List Item). inferred (origins_of es)) h.entries;
  }

-- The budget at first

not_free : (clauses more : List TreeClause) → is_function_free clauses ≡ false → is_function_free (clauses ++ more) ≡ false
not_free clauses more e = ap not (list_any-append clause_applies clauses more) ∙ go (list_any clause_applies clauses) e
  where
    go : (b : Bool) → not b ≡ false → not (b || list_any clause_applies more) ≡ false
    go true e = refl
    go false e = absurd cc

-- what is left is all of the budget, and there is one where the clauses are not function-free
record IsKnown (left : Option ℕ) (clauses : List TreeClause) (budget : ℕ) : Type 0 where
  all : (k : ℕ) → left ≡ Some k → k ≡ budget
  free : left ≡ None → is_function_free clauses ≡ true
  budgeted : (k : ℕ) → left ≡ Some k → is_function_free clauses ≡ false

known : {S I C : Type 0} (r : Run S I C) (clauses : List TreeClause) (budget : ℕ) → IsAllowed r clauses budget → (b : Bool) → is_function_free clauses ≡ b → IsKnown r.left clauses budget
known r clauses budget h true e = record {
  all = λ k q. let p : None ≡ Some k = sym (h.free e) ∙ q in absurd cc;
  free = λ q. e;
  budgeted = λ k q. let p : None ≡ Some k = sym (h.free e) ∙ q in absurd cc;
}
known r clauses budget h false e = record {
  all = λ k q. same_item r.left k budget q (h.budgeted e);
  free = λ q. let p : Some budget ≡ None = sym (h.budgeted e) ∙ q in absurd cc;
  budgeted = λ k q. e;
}

started_runs : {S I C : Type 0} (atoms : S → ℕ) (added : S → List (List (Signed ℕ))) (r : Run S I C) (clauses : List TreeClause) (budget : ℕ) → IsStarted atoms added r (with_axioms clauses)
    → IsAllowed r clauses budget → IsRunning atoms added r r.ground.abstraction.bot (with_axioms clauses) budget [] false
started_runs atoms added r clauses budget h allowed = record {
  logged = transport (λ (l : Log). IsLogOf l (items r)) (sym h.log) (refl, omega arith);
  events = transport (All (IsEventOf r.entries.bank)) (sym nothing) (All-nil (IsEventOf r.entries.bank));
  replays = transport (λ (es : List Event). Replays r.ground.abstraction.bot (with_axioms clauses) (map (event_in r.entries.bank) es) (state_of r [] false)) (sym nothing) (replay_begins r.ground.abstraction.bot (with_axioms clauses) (entries_of r) h.first);
  linked = h.linked;
  bits = λ a. (
    λ i. absurd (contains_in a [] i),
    λ s. let (n, p, q) = s in let e : slice_get [] n ≡ Some true = transport (λ (bs : List Bool). IsHeld bs n) h.valuation q in let l = slice_get_below [] n true e in absurd (omega arith),
  );
  width = let e : length r.ground.valuation ≡ 0 = ap length h.valuation in omega arith;
  places =
      let e : length r.selection.places ≡ 0 = ap (λ (s : Placing). length s.places) h.selection in
      record { within = omega arith; placed = λ i l. absurd (omega arith) };
  left = λ k e. transport (IsLeft budget (entries_of r)) (sym (first.all k e)) (left_at_first 1 budget (with_axioms clauses) (entries_of r) h.first);
  light = allowed.light;
  free = λ e. with_axioms_function_free clauses (first.free e);
  budgeted = λ k e. not_free clauses (equality_axioms clauses) (first.budgeted k e);
  none_held = λ e. h.held;
  held = λ k e. transport (λ (hs : List Premises). All (IsHeldBack (entries_of r) k) (held_in hs)) (sym h.held) (All-nil (IsHeldBack (entries_of r) k));
}
  where
    nothing : events_so_far r ≡ []
    nothing = ap (λ (l : Log). events_of l (items r)) h.log ∙ h.inputs

    first : IsKnown r.left clauses budget
    first = known r clauses budget allowed (is_function_free clauses) refl

pub starts_with : {S I C : Type 0} (atoms : S → ℕ) (added : S → List (List (Signed ℕ))) (old r : Run S I C) (clauses : List TreeClause) (budget : ℕ) → IsStarted atoms added r (with_axioms clauses)
    → IsAllowed old clauses budget → r.left ≡ old.left → IsRunningWith atoms added r r.ground.abstraction.bot (with_axioms clauses) budget
starts_with atoms added old r clauses budget h allowed same =
    ([], false, started_runs atoms added r clauses budget h (record { free = λ e. same ∙ allowed.free e; budgeted = λ e. same ∙ allowed.budgeted e; light = allowed.light }))

-- What stays of the problem

pub problem_later : {S I C : Type 0} (old new : Run S I C) (g : Given) (clauses : List TreeClause) → Extends old.entries.bank new.entries.bank → new.ground.abstraction.bot ≡ old.ground.abstraction.bot
    → IsOfProblem old g clauses → IsOfProblem new g clauses
problem_later old new g clauses grown bot h = record {
  inputs = given_grown old.entries.bank new.entries.bank grown g.inputs clauses h.inputs;
  axioms = given_grown old.entries.bank new.entries.bank grown g.axioms (equality_axioms clauses) h.axioms;
  bot = transport (IsBot clauses) (sym bot) h.bot;
  constant = transport (λ (s : Sym). IsTrue (is_constant s)) (sym bot) h.constant;
  readable = transport (λ (s : Sym). IsTrue (is_readable_name s.name)) (sym bot) h.readable;
}

-- the run's constant is the one that it began with
pub same_constant : {S I C : Type 0} (atoms : S → ℕ) (added : S → List (List (Signed ℕ))) (r : Run S I C) (bot : Sym) (cs : List TreeClause) (budget : ℕ) → IsRunningWith atoms added r bot cs budget → r.ground.abstraction.bot ≡ bot
same_constant atoms added r bot cs budget (v, b, h) = h.linked.constant

-- at most one entry more was appended than the budget has symbols, where there is one
pub appended_within : {S I C : Type 0} (atoms : S → ℕ) (added : S → List (List (Signed ℕ))) (r : Run S I C) (clauses : List TreeClause) (budget : ℕ) → IsRunningFor atoms added r (with_axioms clauses) budget
    → IsFalse (is_function_free clauses) → appended_count (events_so_far r) ≤ suc budget
appended_within atoms added r clauses budget (bot, v, b, h) functions = go r.left refl
  where
    go : (o : Option ℕ) → r.left ≡ o → appended_count (events_so_far r) ≤ suc budget
    go None e = let f = h.free e in let n = not_free clauses (equality_axioms clauses) functions in absurd cc
    go (Some k) e = appended_bounded atoms added r bot (with_axioms clauses) budget v b h k e
