-- What a run at rest hands over: a saturation, or what the budget left open.
use Rattle.std.proofs.Common.{◌≡◌, ℕ, List, [], refl, sym, ap, ◌∙◌, subst as transport, map, length, arith, All, Contains, true}
use Rattle.std.specs.Prelude.{IsTrue, slice_get}
use Rattle.inst_logic.specs.declared.symbol.Sym.{Sym}
use Rattle.inst_logic.specs.declared.signed.Signed.{Signed}
use Rattle.inst_logic.specs.Tree.{Tree}
use Rattle.inst_logic.specs.Equal.{literal_eq}
use Rattle.inst_logic.specs.Clauses.{TreeClause}
use Rattle.inst_logic.specs.Printing.{is_readable_name}
use Rattle.inst_logic.specs.Substitution.{subst_literal}
use Rattle.inst_logic.specs.Truth.{IsTrueLiteral, IsTrueClause}
use Rattle.inst_logic.proofs.SameLemmas.{literal_eq_decides}
use Rattle.inst_logic.proofs.Numbering.{map_map}
use Rattle.inst_logic.proofs.ShownLaws.{at_number_contains}
use Rattle.inst_calculus.specs.Abstraction.{abstraction, abstract_literals, grounding}
use Rattle.inst_calculus.specs.Axioms.{equality_axioms, with_axioms}
use Rattle.inst_calculus.specs.Entries.{Entry}
use Rattle.inst_calculus.proofs.Distinct.{in_distinct, length_map}
use Rattle.inst_calculus.proofs.Items.{same_item, slice_get_below}
use Rattle.inst_calculus.proofs.Membership.{◌∈◌, contains_in, in_map, in_all, in_any}
use Rattle.inst_machine.specs.Machine.{State, IsTrueIn, IsSettled}
use Rattle.inst_machine.specs.Replay.{IsSelection}
use Rattle.cert_format.specs.Certificate as format
use Rattle.cert_format.specs.Printable.{IsPrintableClause, IsPrintableProblem, IsPrintableSaturation}
use Rattle.cert_format.specs.Validity.{IsValidSaturation}
use Rattle.cert_format.proofs.Numbers.{in_slice_get}
use Rattle.engine_laws.specs.Places.{ArePlacedTrue}
use Rattle.engine_laws.specs.Pairs.{IsDecided}
use Rattle.engine_laws.proofs.SelectedEntries.{selection}
use Rattle.term_bank.specs.Forest.{Forest}
use Rattle.term_index.specs.Pairs.{Posting}
use Rattle.cert_values.specs.Values.{entry_of, saturation_of}
use Rattle.instgen_loop.specs.declared.ending.Ending.TheVariants.{Saturated}
use Rattle.instgen_loop.specs.declared.finish.SettledRun.{SettledRun}
use Rattle.instgen_loop.specs.declared.task.Task.{Task}
use Rattle.instgen_loop.specs.Endings.{IsEndingAfter}
use Rattle.instgen_run.specs.Logs.{Log}
use Rattle.instgen_loop.specs.declared.start.Given.{Given}
use Rattle.instgen_run.specs.declared.state.Run.{Run}
use Rattle.instgen_run.specs.declared.queue.Partners.{Partners}
use Rattle.instgen_loop.specs.Ending.{IsAtRest, IsFinished, settled_from, saturation_from}
use Rattle.instgen_run.specs.Loops.{items, held_of}
use Rattle.instgen_loop.specs.Outcomes.{IsSelectedRun, IsSaturatedRun}
use Rattle.instgen_loop.specs.Refuting.{member_of}
use Rattle.instgen_run.specs.Running.{entries_of, state_of, event_in, IsRunning, saturation_at, events_so_far}
use Rattle.instgen_loop.specs.Starting.{IsOfProblem}
use Rattle.instgen_loop.specs.Tasks.{all_clauses}
use Rattle.instgen_loop.proofs.PrintedEntries.{entries_printable}
use Rattle.engine_laws.proofs.Printed.{all_formed, axiom_printable}
use Rattle.instgen_loop.proofs.Refuting.{whole_items}
use Rattle.instgen_loop.proofs.Saturated.{saturated_is_valid}

-- an entry with a true literal is true
clause_is_true : (bot : Sym) (t : State) (c : TreeClause) (l : Signed Tree) → l ∈ c → IsTrueIn bot t l → IsTrueClause (Contains t.valuation) (abstraction bot c)
clause_is_true bot t c l i h =
    in_any (IsTrueLiteral (Contains t.valuation)) (subst_literal (grounding bot) l) (abstraction bot c)
    (in_distinct literal_eq literal_eq_decides (subst_literal (grounding bot) l) (abstract_literals bot c) (in_map (subst_literal (grounding bot)) l c i)) h

-- where each entry has a true literal at its place the run is settled
settled_by_places : (bot : Sym) (t : State) (places : List ℕ) → ArePlacedTrue bot t places → length places ≡ length t.entries → IsSettled bot t
settled_by_places bot t places h whole = in_all (λ (e : Entry). IsTrueClause (Contains t.valuation) (abstraction bot e.clause)) t.entries (λ e i.
    let (k, at) = in_slice_get e t.entries i in
    let low = slice_get_below t.entries k e at in
    let (m, p, holds) = h.placed k (omega (arith, whole)) in
    let same : p.entry ≡ e = same_item (slice_get t.entries k) p.entry e p.entry_at at in
    transport (λ (x : Entry). IsTrueClause (Contains t.valuation) (abstraction bot x.clause)) same
    (clause_is_true bot t p.entry.clause m.selected (contains_in m.selected p.entry.clause (at_number_contains p.entry.clause p.place m.selected p.selected)) holds))

module _ {S I C : Type 0} (atoms : S → ℕ) (added : S → List (List (Signed ℕ))) (pairs : I → List Posting) (fits : Forest → I → Type 0) (r : Run S I C) (p : Partners I C) (g : Given) (clauses : List TreeClause) (names : List (List ℕ))
    (budget : ℕ) (v : List Tree) (rest : IsAtRest atoms pairs fits r p) (h : IsRunning atoms added r r.ground.abstraction.bot (with_axioms clauses) budget v true) (problem : IsOfProblem r g clauses) where
  abbrev f : Forest
  f = r.entries.bank

  abbrev bot : Sym
  bot = r.ground.abstraction.bot

  abbrev t : State
  t = state_of r v true

  -- the base as a plain record of trees, without its members
  abbrev pub base : format.Base
  base = record { inputs = clauses; names = names; axioms = equality_axioms clauses; members = [] }

  members_same : map (entry_of f) (map member_of (items r)) ≡ entries_of r
  members_same = map_map (entry_of f) member_of (items r)

  pub same : saturation_of (saturation_from names (settled_from r g)) ≡ saturation_at r base
  same =
      let inputs = problem.inputs.same in
      let axioms = problem.axioms.same in
      λ i. record { base = record { inputs = inputs i; names = names; axioms = axioms i; members = members_same i }; places = r.selection.places }

  pub long : length r.selection.places ≡ length (entries_of r)
  long = rest.whole ∙ sym (length_map member_of (items r)) ∙ sym (length_map (entry_of f) (map member_of (items r))) ∙ ap length members_same

  pub selected_run : IsSelectedRun clauses names (saturation_from names (settled_from r g)) (events_so_far r) bot t
  selected_run = record {
    run = record {
      inputs = problem.inputs.same;
      named = refl;
      axioms = problem.axioms.same;
      replays = record { constant = problem.bot; replays = h.replays };
      members = sym members_same;
    };
    settled = settled_by_places bot t r.selection.places h.places long;
    placed = rest.whole ∙ sym (length_map member_of (items r));
    selection = transport (λ (c : format.Saturation). IsSelection bot t (format.selected_members c)) (sym same) (selection bot t r.selection.places h.places long);
    whole = record { bank = rest.safe.entries.formed; inputs = problem.inputs.whole; axioms = problem.axioms.whole; members = whole_items f (items r) rest.safe.entries };
  }

  module _ (printable : All IsPrintableClause clauses) (count : length names ≡ length clauses) (readable : All (λ n. IsTrue (is_readable_name n)) names)
      (decided : All (IsDecided (entries_of r) r.selection.places []) (held_of r)) where
    valid : IsValidSaturation (saturation_at r base)
    valid = saturated_is_valid atoms added pairs r p base bot budget v (all_formed clauses printable) refl h rest.tended rest.rests rest.whole decided

    can_be_printed : IsPrintableSaturation (saturation_at r base)
    can_be_printed = record {
      base = record {
        inputs = printable;
        named = count;
        names = readable;
        axioms = in_all IsPrintableClause (equality_axioms clauses) (axiom_printable clauses printable);
        members = entries_printable f (items r) bot clauses (map (event_in f) (events_so_far r)) t rest.safe.entries h.replays refl printable;
      };
      placed = long;
    }

    pub saturated_run : IsSaturatedRun clauses names (saturation_from names (settled_from r g)) (events_so_far r)
    saturated_run = record {
      bot = bot;
      state = t;
      run = selected_run;
      valid = transport IsValidSaturation (sym same) valid;
      printable = transport IsPrintableSaturation (sym same) can_be_printed;
    }

-- from what the cycle leaves

pub own_constant : {S I C : Type 0} (atoms : S → ℕ) (added : S → List (List (Signed ℕ))) (r : Run S I C) (constant : Sym) (cs : List TreeClause) (budget : ℕ) (v : List Tree)
    → IsRunning atoms added r constant cs budget v true → IsRunning atoms added r r.ground.abstraction.bot cs budget v true
own_constant atoms added r constant cs budget v h = transport (λ x. IsRunning atoms added r x cs budget v true) (sym h.linked.constant) h

pub saturated_outcome : {S I C : Type 0} (atoms : S → ℕ) (added : S → List (List (Signed ℕ))) (pairs : I → List Posting) (fits : Forest → I → Type 0) (t : Task) (r : Run S I C) (p : Partners I C) (g : Given)
    → IsFinished atoms added pairs fits t r p g → IsPrintableProblem t.problem.now → All (IsDecided (entries_of r) r.selection.places []) (held_of r) → (state : SettledRun) (log : Log) → state ≡ settled_from r g → log ≡ r.log
    → IsEndingAfter t (Saturated state) log
saturated_outcome atoms added pairs fits t r p g finished printable decided state log e q =
    let clauses = t.problem.now.clauses in
    let (constant, v, h) = finished.solved in
    let run : IsEndingAfter t (Saturated (settled_from r g)) r.log =
    (h.logged, saturated_run atoms added pairs fits r p g clauses t.problem.now.names t.budget v finished.rest (own_constant atoms added r constant (all_clauses t) t.budget v h) finished.problem printable.clauses printable.named printable.readable decided) in
    transport (λ (x : SettledRun). IsEndingAfter t (Saturated x) log) (sym e) (transport (IsEndingAfter t (Saturated (settled_from r g))) (sym q) run)
