-- Conclusions as entries.
use Rattle.std.proofs.Common.{◌≡◌, ℕ, zero, suc, ◌≤◌, List, [], ◌∷◌, ◌++◌, inl, inr, refl, sym, ap, ◌∙◌, subst as transport, take, length, length-append, append-nil, ◌+◌, arith, All, Contains, Option, Some}
use Rattle.inst_logic.specs.declared.signed.Signed.{Signed}
use Rattle.inst_logic.specs.Tree.{Tree}
use Rattle.inst_logic.specs.Derivations.{at_number}
use Rattle.inst_logic.specs.Substitution.{Substitution}
use Rattle.inst_logic.specs.Clauses.{TreeClause, instance, canonical_form, order_of, numbered}
use Rattle.inst_logic.specs.WellFormed.{IsAtom, IsTerm, atom_is_formed, IsFormedClause}
use Rattle.inst_logic.specs.Unifiers.{Sided}
use Rattle.inst_logic.proofs.SameLemmas.{and_both}
use Rattle.inst_logic.proofs.Formed.{canonical_is_formed}
use Rattle.inst_logic.proofs.Numbering.{map_map}
use Rattle.inst_logic.proofs.ShownLaws.{at_number_contains, at_number_append}
use Rattle.inst_calculus.specs.Entries.{Entry, entry_clauses}
use Rattle.inst_calculus.specs.Models.{SelectedClause}
use Rattle.inst_calculus.specs.Saturation.{IsCovered, variant}
use Rattle.inst_calculus.proofs.Membership.{◌∈◌, contains_in, in_contains, in_all, all_in, in_map, in_right, passes}
use Rattle.inst_calculus.proofs.Clauses.{length_instance}
use Rattle.inst_calculus.proofs.Instances.{instance_is_formed}
use Rattle.inst_calculus.proofs.Unify.{most_general_formed}
use Rattle.inst_calculus.proofs.CanonicalForms.{canonical_of_canonical}
use Rattle.inst_calculus.proofs.CoveredInstances.{covered_when_renamed}
use Rattle.term_bank.specs.Forest.{Forest, AreFormed, IsClauseOf, IsClauseAt, Extends, clause_at, tree_at}
use Rattle.unify_core.specs.Sides.{Binding, IsResolvedBy, of_side}
use Rattle.unify_core.specs.declared.side.Side.{Side}
use Rattle.unify_core.specs.declared.side.Side.TheVariants.{Left, Right}
use Rattle.unify_core.proofs.Stays.{bindings_stay, substitutions_stay}
use Rattle.clause_form.proofs.Concluded.{terms_later}
use Rattle.cert_values.specs.Wholes.{IsWholeClause}
use Rattle.cert_values.specs.Values.{origin_of}
use Rattle.cert_values.specs.declared.member.Origin.{Origin}
use Rattle.inst_calculus.proofs.Distinct.{length_map}
use Rattle.engine_laws.specs.Places.{IsPlaced}
use Rattle.inst_calculus.specs.Abstraction.{AreGroundAtoms}
use Rattle.inst_calculus.proofs.Items.{same_item}
use Rattle.term_index.specs.Pairs.{Posting}
use Rattle.ground_abs.proofs.Images.{notes_stay}
use Rattle.instgen_run.specs.declared.state.Run.{Run}
use Rattle.instgen_run.specs.declared.entries.Entries.{Entries}
use Rattle.instgen_run.specs.Clauses.{Item, AreEntries, AreFirsts, entries_in, clauses_in}
use Rattle.instgen_run.proofs.Firsts.{firsts_kept}
use Rattle.instgen_select.specs.Queues.{numbers}
use Rattle.instgen_run.specs.Loops.{items, IsConsistent, IsUnified, IsSideWorked, Goes, Appends}
use Rattle.instgen_run.specs.Running.{Reads}
use Rattle.term_bank.proofs.Cuts.{extends_cut}
use Rattle.term_bank.proofs.Growth.{ids_extend, map_extends}
use Rattle.term_bank.proofs.Clauses.{clause_extends}
use Rattle.instgen_run.proofs.Grown.{clauses_kept, entries_kept}
use Rattle.instgen_run.proofs.Works.{at_number_map}

pub unified_stays : (f g : Forest) (es : List Binding) → Extends f g → IsUnified f es → IsUnified g es
unified_stays f g es e h = record {
  bindings = bindings_stay f g es e h.bindings;
  terms = terms_later f g es e h.bindings h.terms;
  left = h.left;
  right = h.right;
  left_atom = h.left_atom;
  right_atom = h.right_atom;
  unifier = h.unifier;
  resolved = substitutions_stay f g es h.unifier e h.bindings h.resolved;
  most_general = h.most_general;
}

side_terms : (f : Forest) (es : List Binding) (side : Side) (h : IsUnified f es) → (v : ℕ) → IsTerm (of_side h.unifier side v)
side_terms f es Left h v = (most_general_formed h.left h.right h.left_atom h.right_atom h.unifier h.most_general v).0
side_terms f es Right h v = (most_general_formed h.left h.right h.left_atom h.right_atom h.unifier h.most_general v).1

atoms_of_formed : (g : Forest) (d : List (Signed ℕ)) → IsFormedClause (clause_at g d) → All (λ l. IsAtom (tree_at g l.atom)) d
atoms_of_formed g d h = in_all (λ (l : Signed ℕ). IsAtom (tree_at g l.atom)) d (λ l i.
    passes (λ (x : Signed Tree). atom_is_formed x.atom) (clause_at g d) h (record { positive = l.positive; atom = tree_at g l.atom }) (in_map (λ (x : Signed ℕ). record { positive = x.positive; atom = tree_at g x.atom }) l d i))

pub from_clause_at : (g : Forest) (d : List (Signed ℕ)) → All (λ l. IsAtom (tree_at g l.atom)) d → IsFormedClause (clause_at g d)
from_clause_at g [] h = refl
from_clause_at g (l ∷ d) h = and_both (atom_is_formed (tree_at g l.atom)) _ (all_in (λ (l : Signed ℕ). IsAtom (tree_at g l.atom)) (l ∷ d) h l (inl refl))
    (from_clause_at g d (in_all (λ (l : Signed ℕ). IsAtom (tree_at g l.atom)) d (λ k i. all_in (λ (l : Signed ℕ). IsAtom (tree_at g l.atom)) (l ∷ d) h k (inr i))))

pub concluded_whole : (f g : Forest) (es : List Binding) (side : Side) (items : List Item) (e : Item) (d : List (Signed ℕ)) → IsUnified f es → AreEntries f items → Contains items e
    → ((s : Sided) → IsResolvedBy f es s → IsClauseAt g d (canonical_form (instance (of_side s side) (clause_at f e.0)))) → IsWholeClause g d
concluded_whole f g es side items e d h entries i made =
    let at = made h.unifier h.resolved in
    let atoms = all_in (λ (x : Item). All (λ l. IsAtom (tree_at f l.atom)) x.0) items entries.atoms e (contains_in e items i) in
    let s = of_side h.unifier side in
    record {
      ids = at.0;
      atoms = atoms_of_formed g d (transport IsFormedClause (sym at.1) (canonical_is_formed (instance s (clause_at f e.0)) (instance_is_formed s (clause_at f e.0) (side_terms f es side h) (from_clause_at f e.0 atoms))));
    }

pub length_at : (f : Forest) (c : List (Signed ℕ)) → length (clause_at f c) ≡ length c
length_at f c = length_map (λ (l : Signed ℕ). record { positive = l.positive; atom = tree_at f l.atom }) c

-- a conclusion has no more literals than its premise
pub made_shorter : (f g : Forest) (es : List Binding) (side : Side) (c d : List (Signed ℕ)) → IsUnified f es
    → ((s : Sided) → IsResolvedBy f es s → clause_at g d ≡ canonical_form (instance (of_side s side) (clause_at f c))) → length d ≤ length c
made_shorter f g es side c d h made =
    let x = instance (of_side h.unifier side) (clause_at f c) in
    let q : length (clause_at g d) ≡ length (canonical_form x) = ap length (made h.unifier h.resolved) in
    omega (arith, q, length_instance (numbered (order_of x)) x, length_instance (of_side h.unifier side) (clause_at f c), length_at g d, length_at f c)

-- no entry has more literals than the longest
pub premise_bounded : {I C : Type 0} {pairs : I → List Posting} {entries : Entries I C} {es : List Item} → AreFirsts pairs entries es → (n : ℕ) (e : Item) → at_number es n ≡ Some e → length e.0 ≤ entries.longest
premise_bounded h zero e at = absurd cc
premise_bounded h (suc i) e at = h.bounded i e at

-- entries keep their numbers
pub item_later : {S I C : Type 0} (old new : Run S I C) (n : ℕ) (e : Item) → Goes old new → at_number (items old) n ≡ Some e → at_number (items new) n ≡ Some e
item_later old new n e goes at = let (more, q) = goes.entries in ap (λ xs. at_number xs n) q ∙ at_number_append (items old) more n e at

pub safe_grown : {S I C : Type 0} (atoms : S → ℕ) (pairs : I → List Posting) (fits : Forest → I → Type 0) (r : Run S I C) (g : Forest) → IsConsistent atoms pairs fits r → Extends r.entries.bank g → AreFormed g → fits g r.entries.first
    → IsConsistent atoms pairs fits (record r { entries = record r.entries { bank = g } })
safe_grown atoms pairs fits r g h e formed stored = record {
  entries = entries_kept r.entries.bank g e formed (items r) h.entries;
  firsts = firsts_kept pairs r.entries g (items r) e h.entries h.firsts;
  stored = stored;
  numbered = record {
    within = ids_extend r.entries.bank g r.ground.abstraction.ids e h.numbered.within;
    atoms = transport AreGroundAtoms (sym (map_extends r.entries.bank g r.ground.abstraction.ids e h.numbered.within)) h.numbered.atoms;
  };
  notes = notes_stay r.entries.bank g r.ground.abstraction.bot r.ground.abstraction.notes e h.notes;
  count = h.count;
  waiting = h.waiting;
  within = h.within;
  placed = h.placed;
  known = h.known;
}

-- the same where bindings were made too
pub safe_read : {S I C : Type 0} (atoms : S → ℕ) (pairs : I → List Posting) (fits : Forest → I → Type 0) (old new : Run S I C) → IsConsistent atoms pairs fits old → Reads old new → AreFormed new.entries.bank → fits new.entries.bank old.entries.first
    → IsConsistent atoms pairs fits new
safe_read atoms pairs fits old new h reads formed stored =
    let s = safe_grown atoms pairs fits old new.entries.bank h reads.bank formed stored in
    transport (λ r. IsConsistent atoms pairs fits r) (sym reads.rest) (record {
      entries = s.entries;
      firsts = s.firsts;
      stored = s.stored;
      numbered = s.numbered;
      notes = s.notes;
      count = s.count;
      waiting = s.waiting;
      within = s.within;
      placed = s.placed;
      known = s.known;
    })

-- a grown bank alone
pub goes_grown : {S I C : Type 0} (r : Run S I C) (g : Forest) → Extends r.entries.bank g → Goes r (record r { entries = record r.entries { bank = g } })
goes_grown r g e = record {
  bank = e;
  entries = ([], sym (append-nil (items r)));
  held = ([], sym (append-nil r.held.items));
  waits = (0, omega arith, sym (append-nil (numbers r.queue.items)));
  ready = refl;
  selection = refl;
  valuation = refl;
  literals = ([], sym (append-nil r.ground.literals));
}

pub goes_read : {S I C : Type 0} (old new : Run S I C) → Reads old new → Goes old new
goes_read old new reads = transport (λ r. Goes old r) (sym reads.rest) (record {
  bank = reads.bank;
  entries = ([], sym (append-nil (items old)));
  held = ([], sym (append-nil old.held.items));
  waits = (0, omega arith, sym (append-nil (numbers old.queue.items)));
  ready = refl;
  selection = refl;
  valuation = refl;
  literals = ([], sym (append-nil old.ground.literals));
})

-- the bank was read, and cut back to the terms that it had
pub read_and_cut : {S I C : Type 0} (old read new : Run S I C) (len : ℕ) → Reads old read → len ≡ length old.entries.bank.trees → new.entries.bank.trees ≡ take len read.entries.bank.trees → new.entries.bank.symbols ≡ read.entries.bank.symbols
    → new ≡ record read { entries = record read.entries { bank = new.entries.bank } } → Reads old new
read_and_cut old read new len reads count trees symbols rest = record {
  bank = extends_cut old.entries.bank read.entries.bank new.entries.bank reads.bank (trees ∙ ap (λ n. take n read.entries.bank.trees) count) symbols;
  rest = rest ∙ ap (λ (r : Run _ _ _). record r { entries = record r.entries { bank = new.entries.bank } }) reads.rest ∙ bindings_same;
}
  where
    bindings_same : record old { entries = record old.entries { bank = new.entries.bank }; bindings = read.bindings } ≡ record old { entries = record old.entries { bank = new.entries.bank }; bindings = new.bindings }
    bindings_same = ap (λ b. record old { entries = record old.entries { bank = new.entries.bank }; bindings = b }) (sym (ap (λ (r : Run _ _ _). r.bindings) rest))

-- reading changes no clause of the entries
pub clauses_read : {S I C : Type 0} (old new : Run S I C) → Reads old new → AreEntries old.entries.bank (items old) → clauses_in new.entries.bank (items new) ≡ clauses_in old.entries.bank (items old)
clauses_read old new reads entries =
    ap (λ (r : Run _ _ _). clauses_in new.entries.bank (items r)) reads.rest
    ∙ clauses_kept old.entries.bank new.entries.bank reads.bank (items old) (λ x i. all_in (λ (x : Item). IsClauseOf old.entries.bank x.0) (items old) entries.ids x i)

pub reads_grown : {S I C : Type 0} (r : Run S I C) (g : Forest) → Extends r.entries.bank g → Reads r (record r { entries = record r.entries { bank = g } })
reads_grown r g e = record { bank = e; rest = refl }

pub same_clauses : (f : Forest) (es : List Item) → entry_clauses (entries_in f es) ≡ clauses_in f es
same_clauses f es = map_map (λ (x : Entry). x.clause) (λ (x : Item). record { clause = clause_at f x.0; origin = origin_of x.1 }) es

-- an entry with the clause covers it
pub covered_by_entry : (g : Forest) (es : List Item) (e : Item) (c d : TreeClause) → Contains es e → clause_at g e.0 ≡ d → IsCovered (clauses_in g es) c d
covered_by_entry g es e c d i q = variant (clause_at g e.0) (in_contains (clause_at g e.0) (clauses_in g es) (in_map (λ (x : Item). clause_at g x.0) e es (contains_in e es i))) (ap canonical_form (sym q))

-- what covers the canonical form of an instance works the side
pub side_by_cover : {S I C : Type 0} (old new : Run S I C) (s : Substitution) (from partner len : ℕ) (e : Item) (k : Forest) (d : List (Signed ℕ)) → at_number (items old) from ≡ Some e
    → ((m : SelectedClause) → IsPlaced (entries_in new.entries.bank (items new)) new.selection.places from m → m.clause ≡ clause_at old.entries.bank e.0) → length (clause_at old.entries.bank e.0) ≡ len
    → clause_at k d ≡ canonical_form (instance s (clause_at old.entries.bank e.0)) → ((c : TreeClause) → length c ≡ len → IsCovered (clauses_in new.entries.bank (items new)) c (clause_at k d)) → IsSideWorked new s from partner
side_by_cover old new s from partner len e k d at same long made covered m n l o p =
    let q = same m l in
    let x = clause_at old.entries.bank e.0 in
    let h : IsCovered (clauses_in new.entries.bank (items new)) x (clause_at k d) = covered x long in
    inl (transport (λ cs. IsCovered cs m.clause (instance s m.clause)) (sym (same_clauses new.entries.bank (items new)))
    (transport (λ y. IsCovered (clauses_in new.entries.bank (items new)) y (instance s y)) (sym q)
    (covered_when_renamed (clauses_in new.entries.bank (items new)) x (clause_at k d) (instance s x) h (ap canonical_form made ∙ canonical_of_canonical (instance s x)))))

pub appends_go : {S I C : Type 0} (run new : Run S I C) (left : Option ℕ) (clause : List (Signed ℕ)) (origin : Origin) → Appends (record run { left = left }) new clause origin → Goes run new
appends_go run new left clause origin h = record {
  bank = h.bank;
  entries = ((clause, origin) ∷ [], h.entry);
  held = ([], h.held ∙ sym (append-nil run.held.items));
  waits = (1, let e : length (items new) ≡ length (items run) + 1 = ap length h.entry ∙ length-append (items run) ((clause, origin) ∷ []) in omega arith, h.waits);
  ready = h.ready;
  selection = h.selection;
  valuation = h.valuation;
  literals = let (c, q) = h.literals in (c ∷ [], q);
}

pub covered_by_last : (f g : Forest) (es later : List Item) (d : List (Signed ℕ)) (o : Origin) (c : TreeClause) → Extends f g → IsClauseOf f d → later ≡ es ++ (d, o) ∷ [] → IsCovered (clauses_in g later) c (clause_at f d)
covered_by_last f g es later d o c e h q = covered_by_entry g later (d, o) c (clause_at f d) (in_contains (d, o) later (transport (λ xs. (d, o) ∈ xs) (sym q) (in_right (d, o) es ((d, o) ∷ []) (inl refl)))) (clause_extends f g e d h)

pub clause_of_placed : {S I C : Type 0} (old new : Run S I C) (from : ℕ) (e : Item) → Goes old new → AreEntries old.entries.bank (items old) → at_number (items old) from ≡ Some e
    → (m : SelectedClause) → IsPlaced (entries_in new.entries.bank (items new)) new.selection.places from m → m.clause ≡ clause_at old.entries.bank e.0
clause_of_placed old new from e goes entries at m l =
    let (more, q) = goes.entries in
    let later : at_number (items new) from ≡ Some e = ap (λ xs. at_number xs from) q ∙ at_number_append (items old) more from e at in
    let f = new.entries.bank in
    let k = at_number_map (λ (x : Item). record { clause = clause_at f x.0; origin = origin_of x.1 }) (items new) from e later in
    l.clause ∙ ap (λ (x : Entry). x.clause) (same_item (at_number (entries_in f (items new)) from) l.entry (record { clause = clause_at f e.0; origin = origin_of e.1 }) l.entry_at k)
    ∙ clause_extends old.entries.bank f goes.bank e.0 (all_in (λ (x : Item). IsClauseOf old.entries.bank x.0) (items old) entries.ids e (contains_in e (items old) (at_number_contains (items old) from e at)))
