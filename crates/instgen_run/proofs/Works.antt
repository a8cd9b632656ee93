-- Work on pairs, and what stays worked as a run goes on.
use Rattle.std.proofs.Common.{◌≡◌, ℕ, zero, suc, ◌<◌, ◌≤◌, List, [], ◌∷◌, ◌++◌, ◌⊎◌, inl, inr, refl, sym, ap, ap₂, ◌∙◌, subst as transport, map, length, append-nil, append_assoc, ◌+◌, arith, All, Contains, Some}
use Rattle.std.specs.Prelude.{slice_get}
use Rattle.inst_logic.specs.declared.signed.Signed.{Signed}
use Rattle.inst_logic.specs.Tree.{Tree}
use Rattle.inst_logic.specs.Derivations.{at_number}
use Rattle.inst_logic.specs.Clauses.{instance}
use Rattle.inst_logic.specs.Substitution.{Substitution, subst as apply}
use Rattle.inst_logic.specs.WellFormed.{IsAtom}
use Rattle.inst_logic.proofs.ShownLaws.{at_number_contains}
use Rattle.inst_logic.specs.Unifiers.{Sided, IsUnifier}
use Rattle.inst_calculus.specs.Entries.{Entry, entry_clauses}
use Rattle.inst_calculus.specs.Models.{SelectedClause}
use Rattle.inst_calculus.specs.Saturation.{IsCovered}
use Rattle.inst_calculus.proofs.Membership.{◌∈◌, contains_in, in_contains, in_all, all_in, in_left}
use Rattle.inst_calculus.proofs.Distinct.{map_append, length_map}
use Rattle.inst_calculus.proofs.CoveredInstances.{covered_when_grown}
use Rattle.inst_calculus.proofs.Choice.{swapped}
use Rattle.engine_laws.specs.Places.{IsPlaced}
use Rattle.engine_laws.specs.Pairs.{Held, IsWorked}
use Rattle.engine_laws.proofs.Lists.{at_number_front}
use Rattle.inst_calculus.proofs.Items.{same_item, at_number_within}
use Rattle.engine_laws.proofs.WorkedPairs.{placed_before, clauses_stay, pair_stays_worked}
use Rattle.term_bank.specs.Forest.{Forest, IsClauseOf, clause_at, tree_at}
use Rattle.term_index.specs.Pairs.{Posting, Gives, IsOver}
use Rattle.instgen_run.specs.declared.state.Run.{Run}
use Rattle.instgen_run.specs.declared.premises.Premises.{Premises}
use Rattle.instgen_run.specs.Clauses.{Item, AreEntries, entries_in}
use Rattle.instgen_run.specs.Loops.{items, IsSelectedAtom, IsSelectedTree, IsSideWorkedIn, IsSideWorked, IsPairWorked, IsStored, Goes, held_in, held_of, after}
use Rattle.term_bank.proofs.Growth.{extends_trans}
use Rattle.cert_values.specs.Values.{origin_of}
use Rattle.unify_core.specs.Bindings.{Bound_list}
use Rattle.instgen_select.specs.Queues.{numbers}
use Rattle.instgen_run.proofs.Grown.{entries_stay}
use Rattle.instgen_run.proofs.Selected.{same_places}
use Rattle.instgen_run.proofs.Covers.{same_pair}

pub slice_get_map : {X Y : Type 0} (f : X → Y) (xs : List X) (k : ℕ) (x : X) → slice_get xs k ≡ Some x → slice_get (map f xs) k ≡ Some (f x)
slice_get_map f [] k x e = absurd cc
slice_get_map f (y ∷ ys) zero x e = ap (λ z. Some (f z)) (same_item (Some y) y x refl e)
slice_get_map f (y ∷ ys) (suc k) x e = slice_get_map f ys k x e

pub at_number_map : {X Y : Type 0} (f : X → Y) (xs : List X) (n : ℕ) (x : X) → at_number xs n ≡ Some x → at_number (map f xs) n ≡ Some (f x)
at_number_map f xs zero x e = absurd cc
at_number_map f xs (suc k) x e = slice_get_map f xs k x e

-- what is placed by its ids
pub placed_atom : (f : Forest) (es : List Item) (places : List ℕ) (n : ℕ) (m : SelectedClause) (e : Item) (p : ℕ) (l : Signed ℕ) → at_number es n ≡ Some e → at_number places n ≡ Some p → at_number e.0 p ≡ Some l
    → IsPlaced (entries_in f es) places n m → m.selected.atom ≡ tree_at f l.atom
placed_atom f es places n m e p l at here lit k =
    let entry = at_number_map (λ (x : Item). record { clause = clause_at f x.0; origin = origin_of x.1 }) es n e at in
    let same = same_item (at_number (entries_in f es) n) k.entry (record { clause = clause_at f e.0; origin = origin_of e.1 }) k.entry_at entry in
    let q : k.place ≡ p = same_item (at_number places n) k.place p k.place_at here in
    let literal : at_number (clause_at f e.0) p ≡ Some (record { positive = l.positive; atom = tree_at f l.atom }) = at_number_map (λ (x : Signed ℕ). record { positive = x.positive; atom = tree_at f x.atom }) e.0 p l lit in
    ap (λ (x : Signed Tree). x.atom) (same_item (at_number k.entry.clause k.place) m.selected (record { positive = l.positive; atom = tree_at f l.atom }) k.selected
    (ap (λ (x : Entry). at_number x.clause k.place) same ∙ ap (at_number (clause_at f e.0)) q ∙ literal))

pub placed_tree : {S I C : Type 0} (r : Run S I C) (n : ℕ) (t : Tree) (m : SelectedClause) → IsSelectedTree r n t → IsPlaced (entries_in r.entries.bank (items r)) r.selection.places n m → m.selected.atom ≡ t
placed_tree r n t m (a, h, e) k =
    placed_atom r.entries.bank (items r) r.selection.places n m h.item h.place h.literal h.item_at h.place_at h.literal_at k ∙ ap (tree_at r.entries.bank) (sym h.atom) ∙ e

-- A run that goes on

module _ {S I C : Type 0} (old new : Run S I C) (goes : Goes old new) (entries : AreEntries old.entries.bank (items old)) where
  pub entries_grow : (more : List Entry) × (entries_in new.entries.bank (items new) ≡ entries_in old.entries.bank (items old) ++ more)
  entries_grow =
      let (more, q) = goes.entries in
      let f = new.entries.bank in (
        entries_in f more,
        ap (entries_in f) q ∙ map_append (λ (x : Item). record { clause = clause_at f x.0; origin = origin_of x.1 }) (items old) more
            ∙ ap (λ (ys : List Entry). ys ++ entries_in f more) (entries_stay old.entries.bank f goes.bank (items old) (λ x i. all_in (λ (x : Item). IsClauseOf old.entries.bank x.0) (items old) entries.ids x i)),
      )

  pub held_grow : All (Contains (held_of new)) (held_of old)
  held_grow =
      let (more, q) = goes.held in
      in_all (Contains (held_of new)) (held_of old) (λ h i. in_contains h (held_of new)
      (transport (λ xs. h ∈ xs) (sym (ap held_in q ∙ map_append (λ (h : Premises). record { from = h.from; place = h.place; partner = h.partner; other = h.other }) old.held.items more)) (in_left h (held_of old) (held_in more) i)))

  length_entries : length (entries_in old.entries.bank (items old)) ≡ length (items old)
  length_entries = length_map (λ (x : Item). record { clause = clause_at old.entries.bank x.0; origin = origin_of x.1 }) (items old)

  pub pair_stays : (i j : ℕ) → i ≤ length (items old) → j ≤ length (items old) → IsPairWorked old i j → IsPairWorked new i j
  pair_stays i j a b (there, back) =
      let (more, q) = entries_grow in
      let es = entries_in old.entries.bank (items old) in
      let whole : (E : List Entry) (P : List ℕ) → es ++ more ≡ E → old.selection.places ≡ P → IsWorked E P (held_of new) i j × IsWorked E P (held_of new) j i =
      λ E P e p. transport (λ (x : List Entry). IsWorked x P (held_of new) i j × IsWorked x P (held_of new) j i) e
      (transport (λ (x : List ℕ). IsWorked (es ++ more) x (held_of new) i j × IsWorked (es ++ more) x (held_of new) j i) p (
        pair_stays_worked es more old.selection.places old.selection.places (held_of old) (held_of new) i j held_grow (omega (arith, length_entries)) (omega (arith, length_entries)) refl refl there,
        pair_stays_worked es more old.selection.places old.selection.places (held_of old) (held_of new) j i held_grow (omega (arith, length_entries)) (omega (arith, length_entries)) refl refl back,
      )) in
      whole (entries_in new.entries.bank (items new)) new.selection.places (sym q) (sym (same_places goes.selection))

  side_in : (es more : List Entry) (places : List ℕ) (held later : List Held) (s : Substitution) (i j : ℕ) → All (Contains later) held → i ≤ length es → j ≤ length es
      → IsSideWorkedIn es places held s i j → IsSideWorkedIn (es ++ more) places later s i j
  side_in es more places held later s i j hs a b worked m n l r proper = go (worked m n (placed_before es more places places i m a refl l) (placed_before es more places places j n b refl r) proper)
    where
      go : IsCovered (entry_clauses es) m.clause (instance s m.clause) ⊎ Contains held (record { from = i; place = l.place; partner = j; other = r.place })
          → IsCovered (entry_clauses (es ++ more)) m.clause (instance s m.clause) ⊎ Contains later (record { from = i; place = l.place; partner = j; other = r.place })
      go (inl c) = inl (covered_when_grown (entry_clauses es) (entry_clauses (es ++ more)) (clauses_stay es more) m.clause (instance s m.clause) c)
      go (inr h) = inr (all_in (Contains later) held hs (record { from = i; place = l.place; partner = j; other = r.place }) (contains_in (record { from = i; place = l.place; partner = j; other = r.place }) held h))

  pub side_stays : (s : Substitution) (i j : ℕ) → i ≤ length (items old) → j ≤ length (items old) → IsSideWorked old s i j → IsSideWorked new s i j
  side_stays s i j a b worked =
      let (more, q) = entries_grow in
      let es = entries_in old.entries.bank (items old) in
      transport (λ (x : List Entry). IsSideWorkedIn x new.selection.places (held_of new) s i j) (sym q)
      (transport (λ (x : List ℕ). IsSideWorkedIn (es ++ more) x (held_of new) s i j) (sym (same_places goes.selection))
      (side_in es more old.selection.places (held_of old) (held_of new) s i j held_grow (omega (arith, length_entries)) (omega (arith, length_entries)) worked))

  pub selected_stays : (n a : ℕ) → IsSelectedAtom old n a → IsSelectedAtom new n a
  selected_stays n a h = record {
    item = h.item;
    place = h.place;
    literal = h.literal;
    item_at = let (more, q) = goes.entries in ap (λ xs. at_number xs n) q ∙ at_number_front (items old) more n (at_number_within (items old) n h.item h.item_at) ∙ h.item_at;
    place_at = ap (λ xs. at_number xs n) (same_places goes.selection) ∙ h.place_at;
    literal_at = h.literal_at;
    atom = h.atom;
  }

pub after_more : (k m n : ℕ) → after k (m + n) ≡ after k m ++ after (k + m) n
after_more k zero n = ap₂ after (let e : k ≡ k + 0 = omega arith in e) (let e : 0 + n ≡ n = omega arith in e)
after_more k (suc m) n =
    ap (after k) (let e : suc m + n ≡ suc (m + n) = omega arith in e)
    ∙ ap (λ xs. suc k ∷ xs) (after_more (suc k) m n ∙ ap (λ j. after (suc k) m ++ after j n) (let e : suc k + m ≡ k + suc m = omega arith in e))

-- one run goes on from another
pub goes_on : {S I C : Type 0} (a b c : Run S I C) → Goes a b → Goes b c → Goes a c
goes_on a b c g h = record {
  bank = extends_trans a.entries.bank b.entries.bank c.entries.bank g.bank h.bank;
  entries = let (x, p) = g.entries in let (y, q) = h.entries in (x ++ y, q ∙ ap (λ zs. zs ++ y) p ∙ simp append_assoc);
  held = let (x, p) = g.held in let (y, q) = h.held in (x ++ y, q ∙ ap (λ zs. zs ++ y) p ∙ simp append_assoc);
  waits = let (x, k, p) = g.waits in let (y, l, q) = h.waits in (
    x + y,
    omega arith,
    q ∙ ap₂ (λ zs n. zs ++ after n y) p (let e : length (items b) ≡ length (items a) + x = omega arith in e) ∙ join (numbers a.queue.items) (after (length (items a)) x) (after (length (items a) + x) y)
        ∙ ap (λ zs. numbers a.queue.items ++ zs) (sym (after_more (length (items a)) x y)),
  );
  ready = h.ready ∙ g.ready;
  selection = h.selection ∙ g.selection;
  valuation = h.valuation ∙ g.valuation;
  literals = let (x, p) = g.literals in let (y, q) = h.literals in (x ++ y, q ∙ ap (λ zs. zs ++ y) p ∙ simp append_assoc);
}
  where
    join : {X : Type 0} (xs ys zs : List X) → (xs ++ ys) ++ zs ≡ xs ++ (ys ++ zs)
    join [] ys zs = refl
    join (x ∷ xs) ys zs = ap (λ us. x ∷ us) (join xs ys zs)

-- a selected atom is one of the bank
pub selected_within : {S I C : Type 0} (r : Run S I C) (n a : ℕ) → AreEntries r.entries.bank (items r) → IsSelectedAtom r n a → (a < length r.entries.bank.trees) × IsAtom (tree_at r.entries.bank a)
selected_within r n a entries h =
    let f = r.entries.bank in
    let i = contains_in h.item (items r) (at_number_contains (items r) n h.item h.item_at) in
    let j = contains_in h.literal h.item.0 (at_number_contains h.item.0 h.place h.literal h.literal_at) in (
      transport (λ x. x < length f.trees) (sym h.atom) (all_in (λ (l : Signed ℕ). l.atom < length f.trees) h.item.0 (all_in (λ (x : Item). IsClauseOf f x.0) (items r) entries.ids h.item i) h.literal j),
      transport (λ x. IsAtom (tree_at f x)) (sym h.atom) (all_in (λ (l : Signed ℕ). IsAtom (tree_at f l.atom)) h.item.0 (all_in (λ (x : Item). All (λ l. IsAtom (tree_at f l.atom)) x.0) (items r) entries.atoms h.item i) h.literal j),
    )

-- entries whose selected literals have no unifier are worked
pub pair_without : {S I C : Type 0} (r : Run S I C) (i j : ℕ) (a b : Tree) → IsSelectedTree r i a → IsSelectedTree r j b → ((s : Sided) → ¬ IsUnifier s a b) → IsPairWorked r i j
pair_without r i j a b first second none = (
  λ m n l o opposite s g p. absurd (none s (sym (ap (λ x. apply s.left x) (placed_tree r i a m first l)) ∙ g.unifies ∙ ap (λ x. apply s.right x) (placed_tree r j b n second o))),
  λ n m o l opposite s g p. absurd (none (swapped s) (sym (ap (λ x. apply s.right x) (placed_tree r i a m first l)) ∙ sym g.unifies ∙ ap (λ x. apply s.left x) (placed_tree r j b n second o))),
)

-- Walks

abbrev pub IsDone : {S I C : Type 0} → Run S I C → ℕ → (Posting → Type 0) → (Posting → Type 0) → Type 0
IsDone r i asked comes = (p : Posting) → asked p → comes p ⊎ IsPairWorked r i p.1

pub done_on : {S I C : Type 0} (old new : Run S I C) (i j : ℕ) (asked before after : Posting → Type 0) → Goes old new → AreEntries old.entries.bank (items old) → i ≤ length (items old)
    → ((p : Posting) → asked p → p.1 ≤ length (items old)) → IsDone old i asked before → Gives before j after → IsPairWorked new i j → IsDone new i asked after
done_on old new i j asked before after goes entries a within h (atom, here, rest) worked p k = go (h p k)
  where
    first : before p → (p ≡ (atom, j)) ⊎ ¬ (p ≡ (atom, j)) → after p ⊎ IsPairWorked new i p.1
    first b (inl e) = inr (transport (λ (x : Posting). IsPairWorked new i x.1) (sym e) worked)
    first b (inr m) = inl ((rest p).1 (b, m))

    go : before p ⊎ IsPairWorked old i p.1 → after p ⊎ IsPairWorked new i p.1
    go (inl b) = first b (same_pair p (atom, j))
    go (inr m) = inr (pair_stays old new goes entries i p.1 a (within p k) m)

pub goes_rebound : {S I C : Type 0} (r : Run S I C) (b : Bound_list) → Goes r (record r { bindings = b })
goes_rebound r b = record {
  bank = record { trees = (omega arith, λ i l. refl); symbols = (omega arith, λ i l. refl) };
  entries = ([], sym (append-nil (items r)));
  held = ([], sym (append-nil r.held.items));
  waits = (0, omega arith, sym (append-nil (numbers r.queue.items)));
  ready = refl;
  selection = refl;
  valuation = refl;
  literals = ([], sym (append-nil r.ground.literals));
}

pub tree_stays : {S I C : Type 0} (old new : Run S I C) → Goes old new → AreEntries old.entries.bank (items old) → (n : ℕ) (t : Tree) → IsSelectedTree old n t → IsSelectedTree new n t
tree_stays old new goes entries n t (a, h, e) = (a, selected_stays old new goes entries n a h, goes.bank.trees.1 a (selected_within old n a entries h).0 ∙ e)

-- what is no pair of unifiable atoms needs no work
pub all_worked : {S I C : Type 0} (start r : Run S I C) (i atom : ℕ) (pairs : List Posting) (comes over : Posting → Type 0) → Goes start r → AreEntries start.entries.bank (items start) → IsSelectedAtom start i atom
    → ((p : Posting) → Contains pairs p → IsStored start p) → ((p : Posting) → Contains pairs p → ((s : Sided) × IsUnifier s (tree_at start.entries.bank p.0) (tree_at start.entries.bank atom)) → comes p)
    → IsDone r i comes over → IsOver over → (p : Posting) → Contains pairs p → IsPairWorked r i p.1
all_worked start r i atom pairs comes over goes entries selected stored asked done none p k = (
  λ m n l o opposite s g q. (go (swapped s, sym (sym (ap (apply s.left) (placed_tree r i (tree_at start.entries.bank atom) m first l)) ∙ g.unifies ∙ ap (apply s.right) (placed_tree r p.1 (tree_at start.entries.bank p.0) n second o)))).0 m n l o opposite s g q,
  λ n m o l opposite s g q. (go (s, sym (ap (apply s.left) (placed_tree r p.1 (tree_at start.entries.bank p.0) n second o)) ∙ g.unifies ∙ ap (apply s.right) (placed_tree r i (tree_at start.entries.bank atom) m first l))).1 n m o l opposite s g q,
)
  where
    first : IsSelectedTree r i (tree_at start.entries.bank atom)
    first = tree_stays start r goes entries i (tree_at start.entries.bank atom) (atom, selected, refl)

    second : IsSelectedTree r p.1 (tree_at start.entries.bank p.0)
    second = tree_stays start r goes entries p.1 (tree_at start.entries.bank p.0) (p.0, (stored p k).2, refl)

    go : ((s : Sided) × IsUnifier s (tree_at start.entries.bank p.0) (tree_at start.entries.bank atom)) → IsPairWorked r i p.1
    go u = elim (done p (asked p k u)) [ inl c ↦ absurd (none p c) | inr w ↦ w ]
