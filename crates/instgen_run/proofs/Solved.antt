-- A solve keeps the invariant of a run, with the valuation that it leads to.
use Rattle.std.proofs.Common.{◌≡◌, ℕ, zero, suc, ◌<◌, ◌≤◌, List, [], ◌∷◌, ◌++◌, sym, ap, ap₂, ◌∙◌, subst as transport, map, length, Bool, true, All, Contains, Some}
use Rattle.std.specs.Prelude.{slice_get}
use Rattle.std.proofs.lemmas.List.Elements.{All-push}
use Rattle.inst_logic.specs.declared.symbol.Sym.{Sym}
use Rattle.inst_logic.specs.declared.signed.Signed.{Signed}
use Rattle.inst_logic.specs.Tree.{Tree}
use Rattle.inst_logic.specs.Truth.{IsTrueLiteral, IsTrueClause}
use Rattle.inst_logic.specs.Derivations.{at_number}
use Rattle.inst_logic.specs.Substitution.{subst_literal}
use Rattle.inst_logic.specs.Clauses.{TreeClause}
use Rattle.inst_calculus.specs.Abstraction.{grounding}
use Rattle.inst_calculus.specs.Entries.{Entry, entry_clauses}
use Rattle.inst_calculus.specs.Models.{SelectedClause}
use Rattle.inst_calculus.proofs.Membership.{all_in, contains_in}
use Rattle.inst_calculus.proofs.Distinct.{map_append, length_map}
use Rattle.inst_logic.proofs.ShownLaws.{at_number_contains}
use Rattle.inst_machine.specs.Machine as machine
use Rattle.inst_machine.specs.Machine.{State, change_all, IsTrueIn}
use Rattle.inst_machine.specs.Replay.{Replays}
use Rattle.prop_logic.specs.Valuation.{IsHeld}
use Rattle.engine_laws.specs.Places.{IsPlaced, ArePlacedTrue}
use Rattle.inst_calculus.specs.Abstraction.{AreAbstracted, AreGroundAtoms, named_literal, abstract_literals}
use Rattle.engine_laws.specs.Valuations.{IsValuationOf}
use Rattle.cert_format.proofs.Numbers.{slice_get_of_map}
use Rattle.engine_laws.proofs.Bits.{literal_is_as_true}
use Rattle.engine_laws.proofs.Solves.{valuation_is_a_step}
use Rattle.term_bank.specs.Forest.{tree_at, clause_at}
use Rattle.ground_abs.specs.Abstracts.{atoms_in, AreAtomsIn}
use Rattle.ground_abs.specs.Numbering.{Numbering}
use Rattle.inst_machine.specs.Budget.{IsLeft}
use Rattle.engine_laws.specs.Pairs.{IsHeldBack}
use Rattle.instgen_run.specs.Grounds.{IsUsed}
use Rattle.instgen_run.specs.Loops.{held_in}
use Rattle.instgen_run.specs.declared.entries.Entries.{Entries}
use Rattle.cert_values.specs.Values.{origin_of}
use Rattle.instgen_run.specs.declared.event.Event.TheVariants.{Solved}
use Rattle.instgen_run.specs.declared.state.Run.{Run}
use Rattle.instgen_run.specs.Clauses.{Item, entries_in, clauses_in}
use Rattle.instgen_run.specs.Loops.{items}
use Rattle.instgen_run.specs.Logs.{Log, with_solve}
use Rattle.instgen_run.specs.Marks.{events_of, IsLogOf}
use Rattle.instgen_run.specs.Running.{event_in, IsEventOf, entries_of, events_so_far, state_of, IsRunning}
use Rattle.instgen_run.specs.Solves.{Solves, IsTruePlace}
use Rattle.instgen_run.proofs.Inferred.{same_clauses}
use Rattle.instgen_run.proofs.Logged.{solve_logged, order_after_solve}
use Rattle.instgen_run.proofs.Works.{slice_get_map, at_number_map}

pub from_map_number : {X Y : Type 0} (f : X → Y) (xs : List X) (n : ℕ) (y : Y) → at_number (map f xs) n ≡ Some y → (x : X) × (at_number xs n ≡ Some x) × (f x ≡ y)
from_map_number f xs zero y e = absurd cc
from_map_number f xs (suc k) y e = slice_get_of_map f xs k y e

-- a literal that is true by the bits is that of an entry whose abstraction is true
place_is_true : (bot : Sym) (atoms : List Tree) (bits : List Bool) (w : List Tree) (literals : List (List (Signed ℕ))) (es : List Entry) (places : List ℕ) (i : ℕ) (b : Bool)
    → AreGroundAtoms atoms → IsValuationOf atoms bits w → AreAbstracted bot atoms literals (entry_clauses es) → IsTruePlace literals places bits i
    → (m : SelectedClause) × IsPlaced es places (suc i) m × IsTrueIn bot (record { entries = es; valuation = w; has_solved = b }) m.selected
place_is_true bot atoms bits w literals es places i b different values same h =
    let (l, here, holds) = h.holds in
    let numbers : slice_get (map (map (named_literal atoms)) literals) i ≡ Some (map (named_literal atoms) h.clause) = slice_get_map (map (named_literal atoms)) literals i h.clause h.clause_at in
    let trees : slice_get (map (abstract_literals bot) (entry_clauses es)) i ≡ Some (map (named_literal atoms) h.clause) = ap (λ xs. slice_get xs i) (sym same.same) ∙ numbers in
    let (c, at_clause, q) = slice_get_of_map (abstract_literals bot) (entry_clauses es) i (map (named_literal atoms) h.clause) trees in
    let (e, at_entry, p) = slice_get_of_map (λ (x : Entry). x.clause) es i c at_clause in
    let named : at_number (map (subst_literal (grounding bot)) c) h.place ≡ Some (named_literal atoms l) = ap (λ xs. at_number xs h.place) q ∙ at_number_map (named_literal atoms) h.clause h.place l here in
    let (k, at_literal, r) = from_map_number (subst_literal (grounding bot)) c h.place (named_literal atoms l) named in
    let below : l.atom < length atoms = all_in (λ (x : Signed ℕ). x.atom < length atoms) h.clause (all_in (λ c. All (λ (x : Signed ℕ). x.atom < length atoms) c) literals same.below h.clause (contains_in h.clause literals (at_number_contains literals (suc i) h.clause h.clause_at)))
    l (contains_in l h.clause (at_number_contains h.clause h.place l here)) in (
      record { clause = c; selected = k },
      record { entry = e; place = h.place; entry_at = at_entry; place_at = h.place_at; clause = sym p; selected = ap (λ x. at_number x h.place) p ∙ at_literal },
      transport (IsTrueLiteral (Contains w)) (sym r) ((literal_is_as_true atoms bits w l different values below).0 holds),
    )

pub running_solved : {S I C : Type 0} (atoms : S → ℕ) (added : S → List (List (Signed ℕ))) (old new : Run S I C) (flips : List ℕ) → Solves atoms added old new flips
    → All (IsTrueClause (IsHeld new.ground.valuation)) (added old.ground.solver) → (bot : Sym) (cs : List TreeClause) (budget : ℕ) (v : List Tree) (b : Bool) → IsRunning atoms added old bot cs budget v b
    → IsRunning atoms added new bot cs budget (change_all v (map (tree_at old.entries.bank) flips)) true
running_solved atoms added old new flips solves holds bot cs budget v b h =
    let f = old.entries.bank in
    let ids = old.ground.abstraction.ids in
    let w = change_all v (map (tree_at f) flips) in
    let abstracted : AreAbstracted bot (atoms_in f ids) old.ground.literals (entry_clauses (entries_of old)) = transport (AreAbstracted bot (atoms_in f ids) old.ground.literals) (sym (same_clauses f (items old))) h.linked.same in
    let (replays, settled, bits) = valuation_is_a_step bot cs (map (event_in f) (events_so_far old)) (state_of old v b) (atoms_in f ids) old.ground.literals old.ground.valuation new.ground.valuation (map (tree_at f) flips)
    h.replays h.linked.fits.atoms abstracted h.bits solves.changes (transport (All (IsTrueClause (IsHeld new.ground.valuation))) h.linked.given holds) in
    let items_now : items new ≡ items old = ap (λ (e : Entries _ _). e.clauses.entries) solves.entries in
    let now : events_so_far new ≡ events_so_far old ++ Solved flips ∷ [] = ap₂ events_of solves.log items_now ∙ solve_logged old.log (items old) flips h.logged in
    let journal : map (event_in f) (events_so_far new) ≡ map (event_in f) (events_so_far old) ++ machine.solved (map (tree_at f) flips) ∷ [] = ap (map (event_in f)) now ∙ map_append (event_in f) (events_so_far old) (Solved flips ∷ []) in
    let events : All (IsEventOf f) (events_so_far new) = transport (All (IsEventOf f)) (sym now) (All-push (IsEventOf f) (events_so_far old) (Solved flips) h.events solves.ids) in
    let count : length (entries_of old) ≡ length (items old) = length_map (λ (x : Item). record { clause = clause_at f x.0; origin = origin_of x.1 }) (items old) in
    let places : ArePlacedTrue bot (state_of old w true) new.selection.places = record {
      within = transport (λ n. length new.selection.places ≤ n) (sym count) solves.within;
      placed = λ i l. place_is_true bot (atoms_in f ids) new.ground.valuation w old.ground.literals (entries_of old) new.selection.places i true h.linked.fits.atoms bits abstracted (solves.placed i l);
    } in
    record {
      logged = transport (λ (l : Log). IsLogOf l (items new)) (sym solves.log) (transport (IsLogOf (with_solve old.log flips (length (items old)))) (sym items_now) (order_after_solve old.log (items old) flips h.logged));
      events = transport (λ (e : Entries _ _). All (IsEventOf e.bank) (events_so_far new)) (sym solves.entries) events;
      replays = transport (λ (e : Entries _ _). Replays bot cs (map (event_in e.bank) (events_so_far new)) (record { entries = entries_in e.bank e.clauses.entries; valuation = w; has_solved = true })) (sym solves.entries)
          (transport (λ js. Replays bot cs js (state_of old w true)) (sym journal) replays);
      linked = record {
        constant = ap (λ (a : Numbering). a.bot) solves.numbering ∙ h.linked.constant;
        fits = transport (λ (e : Entries _ _). AreAtomsIn e.bank new.ground.abstraction.ids) (sym solves.entries) (transport (λ (a : Numbering). AreAtomsIn f a.ids) (sym solves.numbering) h.linked.fits);
        count = solves.atoms_same ∙ h.linked.count ∙ sym (ap (λ (a : Numbering). length a.ids) solves.numbering);
        given = solves.added_same ∙ h.linked.given ∙ sym solves.literals;
        same = transport (λ (e : Entries _ _). AreAbstracted bot (atoms_in e.bank new.ground.abstraction.ids) new.ground.literals (clauses_in e.bank e.clauses.entries)) (sym solves.entries)
            (transport (λ (a : Numbering). AreAbstracted bot (atoms_in f a.ids) new.ground.literals (clauses_in f (items old))) (sym solves.numbering)
            (transport (λ ls. AreAbstracted bot (atoms_in f ids) ls (clauses_in f (items old))) (sym solves.literals) h.linked.same));
        used = transport (λ (e : Entries _ _). All (IsUsed bot (clauses_in e.bank e.clauses.entries)) (atoms_in e.bank new.ground.abstraction.ids)) (sym solves.entries)
            (transport (λ (a : Numbering). All (IsUsed bot (clauses_in f (items old))) (atoms_in f a.ids)) (sym solves.numbering) h.linked.used);
      };
      bits = transport (λ (e : Entries _ _). IsValuationOf (atoms_in e.bank new.ground.abstraction.ids) new.ground.valuation w) (sym solves.entries)
          (transport (λ (a : Numbering). IsValuationOf (atoms_in f a.ids) new.ground.valuation w) (sym solves.numbering) bits);
      width = transport (λ (a : Numbering). length new.ground.valuation ≤ length a.ids) (sym solves.numbering) solves.width;
      places = transport (λ (e : Entries _ _). ArePlacedTrue bot (record { entries = entries_in e.bank e.clauses.entries; valuation = w; has_solved = true }) new.selection.places) (sym solves.entries) places;
      left = λ k e. transport (λ (x : Entries _ _). IsLeft budget (entries_in x.bank x.clauses.entries) k) (sym solves.entries) (h.left k (sym solves.left ∙ e));
      light = h.light;
      free = λ e. h.free (sym solves.left ∙ e);
      budgeted = λ k e. h.budgeted k (sym solves.left ∙ e);
      none_held = λ e. solves.held ∙ h.none_held (sym solves.left ∙ e);
      held = λ k e. transport (λ (x : Entries _ _). All (IsHeldBack (entries_in x.bank x.clauses.entries) k) (held_in new.held.items)) (sym solves.entries)
          (transport (λ hs. All (IsHeldBack (entries_of old) k) (held_in hs)) (sym solves.held) (h.held k (sym solves.left ∙ e)));
    }
