-- Bounds on the entries of a run, and on those that it appended.
use Rattle.std.proofs.Common.{◌≡◌, ℕ, suc, ◌≤◌, List, [], ◌∷◌, refl, ap, map, length, arith, Bool, Option, None, Some}
use Rattle.inst_logic.specs.declared.symbol.Sym.{Sym}
use Rattle.inst_logic.specs.declared.signed.Signed.{Signed}
use Rattle.inst_logic.specs.Tree.{Tree}
use Rattle.inst_logic.specs.Clauses.{TreeClause}
use Rattle.inst_logic.specs.WellFormed.{AreFormedClauses}
use Rattle.inst_calculus.proofs.Distinct.{length_map}
use Rattle.inst_machine.specs.Replay.{inferred_origins}
use Rattle.inst_machine.proofs.EntryBound.{entries_are_bounded}
use Rattle.inst_machine.proofs.Origins.{origins_in_order}
use Rattle.term_bank.specs.Forest.{Forest, clause_at}
use Rattle.cert_values.specs.Values.{origin_of}
use Rattle.instgen_run.specs.declared.event.Event.{Event}
use Rattle.instgen_run.specs.declared.event.Event.TheVariants.{Solved, Inferred}
use Rattle.instgen_run.specs.declared.state.Run.{Run}
use Rattle.instgen_run.specs.Clauses.{Item}
use Rattle.instgen_run.specs.Loops.{items}
use Rattle.instgen_run.specs.Running.{event_in, entries_of, state_of, IsRunning, IsRunningFor, most_entries, events_so_far}
use Rattle.instgen_loop.specs.Outcomes.{appended_count}
use Rattle.inst_machine.proofs.BySize.{appended_within_budget, entries_by_size}

-- there are no more entries than can be
pub entries_bounded : {S I C : Type 0} (atoms : S → ℕ) (added : S → List (List (Signed ℕ))) (r : Run S I C) (cs : List TreeClause) (budget : ℕ) → AreFormedClauses cs
    → IsRunningFor atoms added r cs budget → length (items r) ≤ most_entries cs budget
entries_bounded atoms added r cs budget formed (bot, v, b, h) = go r.left refl
  where
    count : length (entries_of r) ≡ length (items r)
    count = length_map (λ (x : Item). record { clause = clause_at r.entries.bank x.0; origin = origin_of x.1 }) (items r)

    go : (o : Option ℕ) → r.left ≡ o → length (items r) ≤ most_entries cs budget
    go None e = let l = entries_are_bounded bot cs formed (h.free e) (map (event_in r.entries.bank) (events_so_far r)) (state_of r v b) h.replays in let c = count in omega arith
    go (Some k) e = let l = entries_by_size bot cs (map (event_in r.entries.bank) (events_so_far r)) (state_of r v b) h.replays in let m = h.left k e in let c = count in omega arith

events_counted : (f : Forest) (js : List Event) → appended_count js ≡ length (inferred_origins (map (event_in f) js))
events_counted f [] = refl
events_counted f (Solved flips ∷ js) = events_counted f js
events_counted f (Inferred origin ∷ js) = ap suc (events_counted f js)

-- at most one entry more was appended than the budget has symbols
pub appended_bounded : {S I C : Type 0} (atoms : S → ℕ) (added : S → List (List (Signed ℕ))) (r : Run S I C) (bot : Sym) (cs : List TreeClause) (budget : ℕ) (v : List Tree) (b : Bool)
    → IsRunning atoms added r bot cs budget v b → (left : ℕ) → r.left ≡ Some left → appended_count (events_so_far r) ≤ suc budget
appended_bounded atoms added r bot cs budget v b h left e =
    let f = r.entries.bank in
    let journal = map (event_in f) (events_so_far r) in
    let order = ap length (origins_in_order bot cs journal (state_of r v b) h.replays) in
    let sizes = appended_within_budget bot cs journal (state_of r v b) budget left h.replays (h.left left e) in
    let count = events_counted f (events_so_far r) in
    omega arith
