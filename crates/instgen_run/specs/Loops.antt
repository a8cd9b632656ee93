-- What the loop keeps, and what its steps change. The solver and the indexes are spoken of by what their traits tell.
use Rattle.std.specs.Prelude.{◌≡◌, ◌⊎◌, ℕ, zero, suc, ◌+◌, ◌<◌, ◌≤◌, List, [], ◌∷◌, ◌++◌, length, map, All, Contains, Some, slice_get, Bool, true, false}
use Rattle.inst_logic.specs.declared.symbol.Sym.{Sym}
use Rattle.inst_logic.specs.declared.signed.Signed.{Signed}
use Rattle.inst_logic.specs.Derivations.{at_number}
use Rattle.inst_logic.specs.Clauses.{instance, canonical_form}
use Rattle.inst_logic.specs.Substitution.{Substitution}
use Rattle.inst_logic.specs.Unifiers.{Sided, IsProper, IsMostGeneral}
use Rattle.inst_logic.specs.WellFormed.{IsAtom}
use Rattle.unify_core.specs.Sides.{Binding, IsResolvedBy, of_side}
use Rattle.unify_core.specs.Chains.{AreBindings}
use Rattle.unify_core.specs.Terms.{AreTerms}
use Rattle.unify_core.specs.declared.side.Side.{Side}
use Rattle.inst_calculus.specs.Entries.{Entry, entry_clauses}
use Rattle.inst_calculus.specs.Models.{SelectedClause}
use Rattle.inst_calculus.specs.Saturation.{IsCovered}
use Rattle.engine_laws.specs.Places.{IsPlaced}
use Rattle.engine_laws.specs.Pairs.{Held, IsWorked}
use Rattle.inst_logic.specs.Tree.{Tree}
use Rattle.term_bank.specs.Forest.{Forest, Extends, tree_at, clause_at}
use Rattle.term_index.specs.Pairs.{Posting}
use Rattle.ground_abs.specs.Abstracts.{AreAtomsIn, AreNotesIn, Grows}
use Rattle.instgen_select.specs.Queues.{numbers}
use Rattle.cert_values.specs.declared.member.Origin.{Origin}
use Rattle.instgen_run.specs.declared.state.Run.{Run}
use Rattle.instgen_run.specs.declared.queue.Partners.{Partners}
use Rattle.instgen_run.specs.declared.premises.Premises.{Premises}
use Rattle.instgen_run.specs.Clauses.{Item, AreEntries, AreFirsts, clauses_in, entries_in}
use Rattle.instgen_run.specs.Grounds.{IsLinked}

abbrev pub items : {S I C : Type 0} → Run S I C → List Item
items r = r.entries.clauses.entries

-- entry i, counted from 0, has a literal at its place
pub record IsLiteralPlace (es : List Item) (places : List ℕ) (i : ℕ) : Type 0 where
  pub item : Item
  pub place : ℕ
  pub literal : Signed ℕ
  pub item_at : slice_get es i ≡ Some item
  pub place_at : slice_get places i ≡ Some place
  pub literal_at : at_number item.0 place ≡ Some literal

-- What each call on a run needs: ids are ids, the indexes and the solvers fit the entries, and numbers name entries.
pub record IsConsistent {S I C : Type 0} (atoms : S → ℕ) (pairs : I → List Posting) (fits : Forest → I → Type 0) (r : Run S I C) : Type 0 where
  pub entries : AreEntries r.entries.bank (items r)
  pub firsts : AreFirsts pairs r.entries (items r)
  pub stored : fits r.entries.bank r.entries.first
  pub numbered : AreAtomsIn r.entries.bank r.ground.abstraction.ids
  pub notes : AreNotesIn r.entries.bank r.ground.abstraction.bot r.ground.abstraction.notes
  pub count : atoms r.ground.solver ≡ length r.ground.abstraction.ids
  pub waiting : All (λ n. n ≤ length (items r)) (numbers r.queue.items)
  pub within : length r.selection.places ≤ length (items r)
  pub placed : (i : ℕ) → i < length r.selection.places → IsLiteralPlace (items r) r.selection.places i
  pub known : r.known.clauses ≡ map (λ (e : Item). e.0) (items r)

-- one more entry, which waits in the queue and may not be picked yet; the log of solves and the rest are as they were
pub record Appends {S I C : Type 0} (old new : Run S I C) (clause : List (Signed ℕ)) (origin : Origin) : Type 0 where
  pub bank : Extends old.entries.bank new.entries.bank
  pub entry : items new ≡ items old ++ (clause, origin) ∷ []
  pub waits : numbers new.queue.items ≡ numbers old.queue.items ++ suc (length (items old)) ∷ []
  pub ready : new.queue.ready ≡ old.queue.ready
  pub valuation : new.ground.valuation ≡ old.ground.valuation
  pub bot : new.ground.abstraction.bot ≡ old.ground.abstraction.bot
  pub atoms : Grows old.ground.abstraction.ids new.ground.abstraction.ids
  pub literals : (abstracted : List (Signed ℕ)) × (new.ground.literals ≡ old.ground.literals ++ abstracted ∷ [])
  pub selection : new.selection ≡ old.selection
  pub held : new.held.items ≡ old.held.items
  pub log : new.log ≡ old.log
  pub left : new.left ≡ old.left
  pub bindings : new.bindings ≡ old.bindings
  pub longest : new.entries.longest ≡ old.entries.longest

-- the solver stays linked to the clauses
abbrev pub KeepsLink : {S I C : Type 0} → (S → ℕ) → (S → List (List (Signed ℕ))) → Run S I C → Run S I C → Type 0
KeepsLink atoms added old new = (bot : Sym)
    → IsLinked old.entries.bank old.ground (atoms old.ground.solver) (added old.ground.solver) bot (clauses_in old.entries.bank (items old))
    → IsLinked new.entries.bank new.ground (atoms new.ground.solver) (added new.ground.solver) bot (clauses_in new.entries.bank (items new))

-- the id of the atom at the place of entry n
pub record IsSelectedAtom {S I C : Type 0} (r : Run S I C) (n a : ℕ) : Type 0 where
  pub item : Item
  pub place : ℕ
  pub literal : Signed ℕ
  pub item_at : at_number (items r) n ≡ Some item
  pub place_at : at_number r.selection.places n ≡ Some place
  pub literal_at : at_number item.0 place ≡ Some literal
  pub atom : a ≡ literal.atom

abbrev pub held_in : List Premises → List Held
held_in hs = map (λ (h : Premises). record { from = h.from; place = h.place; partner = h.partner; other = h.other }) hs

abbrev pub held_of : {S I C : Type 0} → Run S I C → List Held
held_of r = held_in r.held.items

-- so many numbers after k
abbrev pub after : ℕ → ℕ → List ℕ
after k zero = []
after k (suc n) = suc k ∷ after (suc k) n

-- the run goes on under one valuation: entries, which wait in the queue and may not be picked yet, and held conclusions are added
pub record Goes {S I C : Type 0} (old new : Run S I C) : Type 0 where
  pub bank : Extends old.entries.bank new.entries.bank
  pub entries : (more : List Item) × (items new ≡ items old ++ more)
  pub held : (more : List Premises) × (new.held.items ≡ old.held.items ++ more)
  pub waits : (count : ℕ) × (count + length (items old) ≡ length (items new)) × (numbers new.queue.items ≡ numbers old.queue.items ++ after (length (items old)) count)
  pub ready : new.queue.ready ≡ old.queue.ready
  pub selection : new.selection ≡ old.selection
  pub valuation : new.ground.valuation ≡ old.ground.valuation
  pub literals : (more : List (List (Signed ℕ))) × (new.ground.literals ≡ old.ground.literals ++ more)

-- where the substitution is proper for the selected literal of entry `from`, what it gives is covered or held back
abbrev pub IsSideWorkedIn : List Entry → List ℕ → List Held → Substitution → ℕ → ℕ → Type 0
IsSideWorkedIn es places held s from partner = (m n : SelectedClause) (l : IsPlaced es places from m) (o : IsPlaced es places partner n)
    → IsProper s m.selected.atom → IsCovered (entry_clauses es) m.clause (instance s m.clause) ⊎ Contains held (record { from = from; place = l.place; partner = partner; other = o.place })

abbrev pub IsSideWorked : {S I C : Type 0} → Run S I C → Substitution → ℕ → ℕ → Type 0
IsSideWorked r s from partner = IsSideWorkedIn (entries_in r.entries.bank (items r)) r.selection.places (held_of r) s from partner

-- the pair is the selected atom of an entry with its number
abbrev pub IsStored : {S I C : Type 0} → Run S I C → Posting → Type 0
IsStored r p = (0 < p.1) × (p.1 ≤ length r.selection.places) × IsSelectedAtom r p.1 p.0

-- the tree is the atom of the selected literal of entry n
abbrev pub IsSelectedTree : {S I C : Type 0} → Run S I C → ℕ → Tree → Type 0
IsSelectedTree r n t = (a : ℕ) × IsSelectedAtom r n a × (tree_at r.entries.bank a ≡ t)

-- the two entries were worked, in both orders
abbrev pub IsPairWorked : {S I C : Type 0} → Run S I C → ℕ → ℕ → Type 0
IsPairWorked r i j =
    IsWorked (entries_in r.entries.bank (items r)) r.selection.places (held_of r) i j × IsWorked (entries_in r.entries.bank (items r)) r.selection.places (held_of r) j i

-- the bindings unify two atoms
pub record IsUnified (f : Forest) (es : List Binding) : Type 0 where
  pub bindings : AreBindings f es
  pub terms : AreTerms f es
  pub left : Tree
  pub right : Tree
  pub left_atom : IsAtom left
  pub right_atom : IsAtom right
  pub unifier : Sided
  pub resolved : IsResolvedBy f es unifier
  pub most_general : IsMostGeneral unifier left right

-- the clause of the later bank is the canonical form of what entry `from` becomes under the bindings
pub record IsConclusionFor {S I C : Type 0} (old new : Run S I C) (side : Side) (from : ℕ) (d : List (Signed ℕ)) : Type 0 where
  pub item : Item
  pub item_at : at_number (items old) from ≡ Some item
  pub made : (s : Sided) → IsResolvedBy old.entries.bank old.bindings.entries s → clause_at new.entries.bank d ≡ canonical_form (instance (of_side s side) (clause_at old.entries.bank item.0))

-- the selected literal of entry n
pub record IsSelectedLiteral {S I C : Type 0} (r : Run S I C) (n : ℕ) (l : Signed ℕ) : Type 0 where
  pub item : Item
  pub place : ℕ
  pub item_at : at_number (items r) n ≡ Some item
  pub place_at : at_number r.selection.places n ≡ Some place
  pub literal_at : at_number item.0 place ≡ Some l

-- it has the sign
abbrev pub IsSigned : {S I C : Type 0} → Run S I C → ℕ → Bool → Type 0
IsSigned r n b = (l : Signed ℕ) × IsSelectedLiteral r n l × (l.positive ≡ b)

-- the indexes have selected atoms of the run with their numbers, each those of one sign
pub record ArePartners {S I C : Type 0} (pairs : I → List Posting) (fits : Forest → I → Type 0) (r : Run S I C) (p : Partners I C) : Type 0 where
  pub positive_fits : fits r.entries.bank p.positive
  pub negative_fits : fits r.entries.bank p.negative
  pub positive_stored : (q : Posting) → Contains (pairs p.positive) q → IsStored r q
  pub negative_stored : (q : Posting) → Contains (pairs p.negative) q → IsStored r q
  pub positive_signed : (q : Posting) → Contains (pairs p.positive) q → IsSigned r q.1 true
  pub negative_signed : (q : Posting) → Contains (pairs p.negative) q → IsSigned r q.1 false

-- what waits has a number, and a place
abbrev pub AreWaiting : {S I C : Type 0} → Run S I C → Type 0
AreWaiting r = All (λ n. (0 < n) × (n ≤ length r.selection.places)) (numbers r.queue.items)

-- what may be picked has a number, and a place
abbrev pub AreReady : {S I C : Type 0} → Run S I C → Type 0
AreReady r = All (λ n. (0 < n) × (n ≤ length r.selection.places)) (numbers r.queue.ready)
