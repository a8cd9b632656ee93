-- A run at rest whose held conclusions are decided gives a valid saturation.
use Rattle.std.proofs.Common.{◌≡◌, ◌⊎◌, inl, inr, ℕ, suc, ◌<◌, List, [], sym, ◌∙◌, subst as transport, map, length, arith, true, All, Contains}
use Rattle.inst_logic.specs.declared.symbol.Sym.{Sym}
use Rattle.inst_logic.specs.declared.signed.Signed.{Signed}
use Rattle.inst_logic.specs.Tree.{Tree}
use Rattle.inst_logic.specs.WellFormed.{AreFormedClauses}
use Rattle.inst_calculus.specs.Axioms.{equality_axioms, with_axioms}
use Rattle.inst_calculus.proofs.Membership.{contains_in}
use Rattle.inst_calculus.proofs.Distinct.{length_map}
use Rattle.cert_format.specs.Certificate.{Base}
use Rattle.cert_format.specs.Validity.{IsValidSaturation}
use Rattle.engine_laws.specs.Pairs.{IsDecided}
use Rattle.engine_laws.proofs.SelectedEntries.{all_covered}
use Rattle.engine_laws.proofs.ValidRuns.{valid_when_closed}
use Rattle.term_bank.specs.Forest.{clause_at}
use Rattle.term_index.specs.Pairs.{Posting}
use Rattle.instgen_select.specs.Queues.{Waiting, numbers}
use Rattle.cert_values.specs.Values.{origin_of}
use Rattle.instgen_run.specs.declared.state.Run.{Run}
use Rattle.instgen_run.specs.declared.queue.Partners.{Partners}
use Rattle.instgen_run.specs.Clauses.{Item}
use Rattle.instgen_run.specs.Loops.{items, held_of}
use Rattle.instgen_run.specs.Running.{event_in, entries_of, state_of, IsRunning, saturation_at, events_so_far}
use Rattle.instgen_run.specs.Tended.{AreTended, indexed_of}

-- where nothing waits each entry is indexed
pub all_indexed : {S I C : Type 0} (pairs : I → List Posting) (r : Run S I C) (p : Partners I C) → AreTended pairs r p → r.queue.items ≡ [] → (i : ℕ) → i < length (entries_of r) → Contains (indexed_of pairs p) (suc i)
all_indexed pairs r p tended none i l =
    only (tended.queued i (let e : length (entries_of r) ≡ length (items r) = length_map (λ (x : Item). record { clause = clause_at r.entries.bank x.0; origin = origin_of x.1 }) (items r) in omega arith))
  where
    only : Contains (numbers r.queue.items) (suc i) ⊎ Contains (indexed_of pairs p) (suc i) → Contains (indexed_of pairs p) (suc i)
    only (inl a) = absurd (contains_in (suc i) [] (transport (λ (xs : List Waiting). Contains (numbers xs) (suc i)) none a))
    only (inr b) = b

pub saturated_is_valid : {S I C : Type 0} (atoms : S → ℕ) (added : S → List (List (Signed ℕ))) (pairs : I → List Posting) (r : Run S I C) (p : Partners I C) (base : Base) (bot : Sym) (budget : ℕ) (v : List Tree)
    → AreFormedClauses (with_axioms base.inputs) → base.axioms ≡ equality_axioms base.inputs → IsRunning atoms added r bot (with_axioms base.inputs) budget v true → AreTended pairs r p
    → r.queue.items ≡ [] → length r.selection.places ≡ length (items r) → All (IsDecided (entries_of r) r.selection.places []) (held_of r) → IsValidSaturation (saturation_at r base)
saturated_is_valid atoms added pairs r p base bot budget v formed axioms h tended none whole decided =
    valid_when_closed bot (saturation_at r base) (map (event_in r.entries.bank) (events_so_far r)) v true formed h.replays axioms h.places long
    (all_covered bot (state_of r v true) r.selection.places h.places long (indexed_of pairs p) (held_of r) tended.worked (all_indexed pairs r p tended none) decided)
  where
    count : length (entries_of r) ≡ length (items r)
    count = length_map (λ (x : Item). record { clause = clause_at r.entries.bank x.0; origin = origin_of x.1 }) (items r)

    long : length r.selection.places ≡ length (entries_of r)
    long = whole ∙ sym count
