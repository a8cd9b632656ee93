-- The invariant of a run in the machine's words, and which steps keep it.
use Rattle.std.specs.Prelude.{◌≡◌, ◌≢◌, ◌⊎◌, ℕ, suc, ◌+◌, ◌-◌, ◌<◌, ◌≤◌, ◌^◌, min, List, [], ◌∷◌, ◌++◌, map, length, Bool, true, Some, None, All, IsTrue, IsFalse, option_map}
use Rattle.inst_logic.specs.declared.symbol.Sym.{Sym}
use Rattle.inst_logic.specs.declared.signed.Signed.{Signed}
use Rattle.inst_logic.specs.Tree.{Tree}
use Rattle.inst_logic.specs.Clauses.{TreeClause, canonical_form}
use Rattle.inst_logic.specs.Derivations.{at_number}
use Rattle.inst_logic.specs.Unifiers.{Sided, IsMostGeneral, IsProper}
use Rattle.inst_calculus.specs.Entries.{Entry}
use Rattle.inst_calculus.specs.Lemmas.{IsIrreducible}
use Rattle.inst_calculus.specs.Parts.{chosen}
use Rattle.inst_calculus.specs.Saturation.{IsCovered}
use Rattle.inst_machine.specs.Machine as machine
use Rattle.inst_machine.specs.Machine.{State}
use Rattle.inst_machine.specs.Replay.{Replays}
use Rattle.inst_machine.specs.Budget.{IsLeft}
use Rattle.cert_format.specs.Certificate.{Base, Saturation}
use Rattle.inst_machine.specs.Bound.{entry_bound}
use Rattle.inst_logic.specs.Measure.{clause_size, is_function_free}
use Rattle.engine_laws.specs.Places.{ArePlacedTrue}
use Rattle.engine_laws.specs.Pairs.{IsHeldBack}
use Rattle.engine_laws.specs.Valuations.{IsValuationOf}
use Rattle.term_bank.specs.Forest.{Forest, Extends, AreIds, tree_at, clause_at}
use Rattle.unify_core.specs.Sides.{IsResolvedBy}
use Rattle.unify_core.specs.declared.side.Side.{Side}
use Rattle.unify_core.specs.declared.side.Side.TheVariants.{Left, Right}
use Rattle.ground_abs.specs.Abstracts.{atoms_in}
use Rattle.cert_values.specs.Values.{origin_of}
use Rattle.cert_values.specs.declared.member.Origin.TheVariants as origins
use Rattle.cert_values.specs.declared.member.Origin.TheVariants.{Inst}
use Rattle.global_subs.specs.declared.lemma.Lemma.{Lemma}
use Rattle.global_subs.specs.Reductions.{IsReduction}
use Rattle.instgen_run.specs.declared.event.Event.{Event}
use Rattle.instgen_run.specs.declared.event.Event.TheVariants.{Solved, Inferred}
use Rattle.instgen_run.specs.declared.state.Run.{Run}
use Rattle.instgen_run.specs.declared.premises.Premises.{Premises}
use Rattle.instgen_run.specs.Clauses.{entries_in, clauses_in}
use Rattle.instgen_run.specs.Grounds.{IsLinked}
use Rattle.instgen_run.specs.Loops.{items, held_of, Appends, IsSelectedLiteral}
use Rattle.instgen_run.specs.Marks.{events_of, IsLogOf}

-- the event that the ids stand for
abbrev pub event_in : Forest → Event → machine.Event
event_in f (Solved flips) = machine.solved (map (tree_at f) flips)
event_in f (Inferred origin) = machine.inferred (origin_of origin)

-- its ids are in the bank
abbrev pub IsEventOf : Forest → Event → Type 0
IsEventOf f (Solved flips) = AreIds f flips
IsEventOf f (Inferred origin) = Unit {0}

abbrev pub events_so_far : {S I C : Type 0} → Run S I C → List Event
events_so_far r = events_of r.log (items r)

abbrev pub entries_of : {S I C : Type 0} → Run S I C → List Entry
entries_of r = entries_in r.entries.bank (items r)

-- the machine's state under a valuation, after a solve or before the first
abbrev pub state_of : {S I C : Type 0} → Run S I C → List Tree → Bool → State
state_of r v solved = record { entries = entries_of r; valuation = v; has_solved = solved }

-- The events replay to the entries, the solver has their abstractions, the valuation's bits are its atoms, selected literals are
-- true, what is left of the budget is known where there are functions, and what is held back is a conclusion too large for it.
pub record IsRunning {S I C : Type 0} (atoms : S → ℕ) (added : S → List (List (Signed ℕ))) (r : Run S I C) (bot : Sym) (cs : List TreeClause) (budget : ℕ) (v : List Tree) (solved : Bool) : Type 0 where
  pub logged : IsLogOf r.log (items r)
  pub events : All (IsEventOf r.entries.bank) (events_so_far r)
  pub replays : Replays bot cs (map (event_in r.entries.bank) (events_so_far r)) (state_of r v solved)
  pub linked : IsLinked r.entries.bank r.ground (atoms r.ground.solver) (added r.ground.solver) bot (clauses_in r.entries.bank (items r))
  pub bits : IsValuationOf (atoms_in r.entries.bank r.ground.abstraction.ids) r.ground.valuation v
  pub width : length r.ground.valuation ≤ length r.ground.abstraction.ids
  pub places : ArePlacedTrue bot (state_of r v solved) r.selection.places
  pub left : (k : ℕ) → r.left ≡ Some k → IsLeft budget (entries_of r) k
  pub light : budget < 2 ^ 64 - 1
  pub free : r.left ≡ None → IsTrue (is_function_free cs)
  pub budgeted : (k : ℕ) → r.left ≡ Some k → IsFalse (is_function_free cs)
  pub none_held : r.left ≡ None → r.held.items ≡ []
  pub held : (k : ℕ) → r.left ≡ Some k → All (IsHeldBack (entries_of r) k) (held_of r)

-- what runs after a solve still does
abbrev pub KeepsRunning : {S I C : Type 0} → (S → ℕ) → (S → List (List (Signed ℕ))) → Run S I C → Run S I C → Type 0
KeepsRunning atoms added old new = (bot : Sym) (cs : List TreeClause) (budget : ℕ) (v : List Tree)
    → IsRunning atoms added old bot cs budget v true → IsRunning atoms added new bot cs budget v true

-- nothing but the bank and the bindings is different: the bank grew, and the bindings are the same
pub record Reads {S I C : Type 0} (old new : Run S I C) : Type 0 where
  pub bank : Extends old.entries.bank new.entries.bank
  pub rest : new ≡ record old { entries = record old.entries { bank = new.entries.bank }; bindings = new.bindings }

-- the two substitutions of the bindings in the order in which the side comes first
abbrev pub from_side : Side → Sided → Sided
from_side Left s = s
from_side Right s = record { left = s.right; right = s.left }

-- the selected literals of the two entries have opposite signs
pub record AreOpposite {S I C : Type 0} (r : Run S I C) (i j : ℕ) : Type 0 where
  pub left : Signed ℕ
  pub right : Signed ℕ
  pub left_at : IsSelectedLiteral r i left
  pub right_at : IsSelectedLiteral r j right
  pub opposite : left.positive ≢ right.positive

-- the bindings are a most general unifier of the selected literals of the two entries, which have opposite signs
pub record ArePaired {S I C : Type 0} (r : Run S I C) (side : Side) (from partner : ℕ) : Type 0 where
  pub literals : AreOpposite r from partner
  pub unifier : Sided
  pub resolved : IsResolvedBy r.entries.bank r.bindings.entries unifier
  pub most_general : IsMostGeneral (from_side side unifier) (tree_at r.entries.bank literals.left.atom) (tree_at r.entries.bank literals.right.atom)

-- it is proper for the first
abbrev pub MayInfer : {S I C : Type 0} → Run S I C → Side → ℕ → ℕ → Type 0
MayInfer r side from partner = (p : ArePaired r side from partner) × IsProper (from_side side p.unifier).left (tree_at r.entries.bank p.literals.left.atom)

-- one more conclusion is held back, and nothing else is different
pub record Holds {S I C : Type 0} (old new : Run S I C) (from partner : ℕ) : Type 0 where
  pub place : ℕ
  pub other : ℕ
  pub place_at : at_number old.selection.places from ≡ Some place
  pub other_at : at_number old.selection.places partner ≡ Some other
  pub held : new.held.items ≡ old.held.items ++ record { from = from; place = place; partner = partner; other = other } ∷ []
  pub rest : new ≡ record old { held = new.held }

-- the clause, of which the entries imply no proper part, was appended for this size
pub record AppendsWhole {S I C : Type 0} (old new : Run S I C) (clause : List (Signed ℕ)) (at : Premises) (size : ℕ) : Type 0 where
  pub appends : Appends (record old { left = option_map (λ k. k - size) old.left }) new clause (Inst at.from at.place at.partner at.other)
  pub irreducible : IsIrreducible (clauses_in old.entries.bank (items old)) (clause_at old.entries.bank clause)

-- a part of the clause that the entries imply was appended for its own size
pub record AppendsPart {S I C : Type 0} (old new : Run S I C) (clause : List (Signed ℕ)) (at : Premises) : Type 0 where
  pub lemma : Lemma
  pub part : List (Signed ℕ)
  pub reduction : IsReduction (clauses_in old.entries.bank (items old)) (clause_at old.entries.bank clause) lemma
  pub canonical : clause_at new.entries.bank part ≡ canonical_form (chosen (clause_at old.entries.bank clause) lemma.keep)
  pub appends : Appends (record old { left = option_map (λ k. k - min (clause_size (clause_at new.entries.bank part)) (2 ^ 64 - 1)) old.left }) new part
      (origins.Lemma at.from at.place at.partner at.other lemma.keep lemma.premises)

-- nothing changed, or the uncovered clause or a part of it was appended
abbrev pub AppendsUncovered : {S I C : Type 0} → Run S I C → Run S I C → List (Signed ℕ) → Premises → ℕ → ℕ → Type 0
AppendsUncovered old new clause at len size =
    (new ≡ old) ⊎ ((AppendsWhole old new clause at size ⊎ AppendsPart old new clause at)
    × ((c : TreeClause) → length c ≡ len → ¬ IsCovered (clauses_in old.entries.bank (items old)) c (clause_at old.entries.bank clause)))

-- some valuation and constant make it so; after a solve
abbrev pub IsRunningFor : {S I C : Type 0} → (S → ℕ) → (S → List (List (Signed ℕ))) → Run S I C → List TreeClause → ℕ → Type 0
IsRunningFor atoms added r cs budget = (bot : Sym) × (v : List Tree) × (b : Bool) × IsRunning atoms added r bot cs budget v b

-- the same with this constant
abbrev pub IsRunningWith : {S I C : Type 0} → (S → ℕ) → (S → List (List (Signed ℕ))) → Run S I C → Sym → List TreeClause → ℕ → Type 0
IsRunningWith atoms added r bot cs budget = (v : List Tree) × (b : Bool) × IsRunning atoms added r bot cs budget v b

abbrev pub IsSolvedFor : {S I C : Type 0} → (S → ℕ) → (S → List (List (Signed ℕ))) → Run S I C → List TreeClause → ℕ → Type 0
IsSolvedFor atoms added r cs budget = (bot : Sym) × (v : List Tree) × IsRunning atoms added r bot cs budget v true

-- a solve leads to one more valuation
abbrev pub KeepsTruth : {S I C : Type 0} → (S → ℕ) → (S → List (List (Signed ℕ))) → Run S I C → Run S I C → Type 0
KeepsTruth atoms added old new = (bot : Sym) (cs : List TreeClause) (budget : ℕ) (v : List Tree) (b : Bool)
    → IsRunning atoms added old bot cs budget v b → (w : List Tree) × IsRunning atoms added new bot cs budget w true

-- how many entries a run can have
abbrev pub most_entries : List TreeClause → ℕ → ℕ
most_entries cs budget = entry_bound cs + suc (length cs + budget)

-- the entries as members over the inputs and their axioms, with the places
abbrev pub saturation_at : {S I C : Type 0} → Run S I C → Base → Saturation
saturation_at r base = record { base = record base { members = entries_of r }; places = r.selection.places }
