-- What is worked with an entry is worked with one that has the same literal selected, where nothing is held back; and pairs of which
-- a part is known to be worked.
use Rattle.std.proofs.Common.{◌≡◌, ◌≢◌, ℕ, ◌<◌, ◌≤◌, List, [], ◌++◌, ◌⊎◌, inl, inr, refl, sym, ap, subst as transport, length, arith, Contains, Bool, true, false, None, Some}
use Rattle.std.specs.Prelude.{Option, IfSome, IfOk, Result, Ok, Err, MatchOption}
use Rattle.term_index.specs.Pairs.{Posting, Gives}
use Rattle.inst_logic.specs.declared.signed.Signed.{Signed}
use Rattle.inst_logic.specs.Tree.{Tree}
use Rattle.inst_logic.specs.Unifiers.{Sided, IsMostGeneral}
use Rattle.inst_calculus.specs.Entries.{Entry}
use Rattle.inst_calculus.specs.Models.{SelectedClause}
use Rattle.inst_calculus.proofs.Membership.{contains_in}
use Rattle.inst_calculus.proofs.Distinct.{length_map}
use Rattle.inst_calculus.proofs.Choice.{swapped, swapped_general}
use Rattle.engine_laws.specs.Places.{IsPlaced}
use Rattle.engine_laws.specs.Pairs.{Held, IsWorked}
use Rattle.engine_laws.proofs.WorkedPairs.{placed_once, pair_stays_worked, worked_by_one, worked_same_sign}
use Rattle.term_bank.specs.Forest.{clause_at, tree_at}
use Rattle.cert_values.specs.Values.{origin_of}
use Rattle.instgen_run.specs.declared.state.Run.{Run}
use Rattle.instgen_run.specs.declared.premises.Premises.{Premises}
use Rattle.instgen_run.specs.Clauses.{Item, AreEntries, entries_in}
use Rattle.instgen_run.specs.Loops.{items, held_in, held_of, Goes, IsSelectedLiteral, IsSelectedTree, IsSideWorked, IsPairWorked}
use Rattle.instgen_run.specs.Alike.{IsWorkedWith, AreAlike, IsDoneWith}
use Rattle.instgen_run.proofs.Selected.{same_places}
use Rattle.instgen_run.proofs.Works.{at_number_map, placed_tree, entries_grow, held_grow, side_stays, tree_stays, pair_stays}

-- Members of the same literal

module _ {S I C : Type 0} (r : Run S I C) (n : ℕ) (l : Signed ℕ) (h : IsSelectedLiteral r n l) where
  abbrev member : SelectedClause
  member = record { clause = clause_at r.entries.bank h.item.0; selected = record { positive = l.positive; atom = tree_at r.entries.bank l.atom } }

  member_placed : IsPlaced (entries_in r.entries.bank (items r)) r.selection.places n member
  member_placed = record {
    entry = record { clause = clause_at r.entries.bank h.item.0; origin = origin_of h.item.1 };
    place = h.place;
    entry_at = at_number_map (λ (x : Item). record { clause = clause_at r.entries.bank x.0; origin = origin_of x.1 }) (items r) n h.item h.item_at;
    place_at = h.place_at;
    clause = refl;
    selected = at_number_map (λ (x : Signed ℕ). record { positive = x.positive; atom = tree_at r.entries.bank x.atom }) h.item.0 h.place l h.literal_at;
  }

  placed_literal : (m : SelectedClause) → IsPlaced (entries_in r.entries.bank (items r)) r.selection.places n m → m.selected ≡ record { positive = l.positive; atom = tree_at r.entries.bank l.atom }
  placed_literal m k = ap (λ (x : SelectedClause). x.selected) (placed_once (entries_in r.entries.bank (items r)) r.selection.places n m member k member_placed)

none_contained : (h : Held) → Contains [] h → ⊥
none_contained h i = contains_in h [] i

none_held : (hs : List Premises) (h : Held) → hs ≡ [] → Contains (held_in hs) h → ⊥
none_held hs h e i = none_contained h (transport (λ (x : List Premises). Contains (held_in x) h) e i)

-- a partner in the place of one with the same literal selected
pub worked_alike : {S I C : Type 0} (r : Run S I C) (i j k : ℕ) → r.held.items ≡ [] → AreAlike r k j → IsWorkedWith r i k → IsWorkedWith r i j
worked_alike r i j k none alike worked m n l o opposite s g p =
    let e = placed_literal r j alike.literal alike.second n o in
    elim (worked m (member r k alike.literal alike.first) l (member_placed r k alike.literal alike.first)
    (transport (λ (x : Signed Tree). m.selected.positive ≢ x.positive) e opposite) s (transport (λ (x : Signed Tree). IsMostGeneral s m.selected.atom x.atom) e g) p) [
      | inl c ↦ inl c
      | inr h ↦ absurd (none_held r.held.items (record { from = i; place = l.place; partner = k; other = (member_placed r k alike.literal alike.first).place }) none h)
    ]

pub first_done : {S I C : Type 0} (r : Run S I C) (i j : ℕ) (last : Option ℕ) → IfSome last (λ k. (0 < k) × (k ≤ length r.selection.places) × IsPairWorked r i k) → IsDoneWith r last j → IsWorkedWith r i j
first_done r i j last h d =
    let (a, b, w) = transport (λ o. IfSome o (λ k. (0 < k) × (k ≤ length r.selection.places) × IsPairWorked r i k)) d.is h in
    worked_alike r i j d.entry d.none_held d.alike w.0

pub second_done : {S I C : Type 0} (r : Run S I C) (i j : ℕ) (indexed : Option ℕ) → IfSome indexed (λ k. (0 < k) × (k ≤ length r.selection.places) × IsPairWorked r k j) → IsDoneWith r indexed i → IsWorkedWith r j i
second_done r i j indexed h d =
    let (a, b, w) = transport (λ o. IfSome o (λ k. (0 < k) × (k ≤ length r.selection.places) × IsPairWorked r k j)) d.is h in
    worked_alike r j i d.entry d.none_held d.alike w.1

pub if_some_weaker : {X : Type 0} {P Q : X → Type 0} (o : Option X) → ((x : X) → P x → Q x) → IfSome o P → IfSome o Q
if_some_weaker None f h = tt
if_some_weaker (Some x) f h = f x h

-- Pairs by parts

pub done_or : {P Q : Type 0} (b : Bool) → (b ≡ true → P) → (b ≡ false → Q) → P ⊎ Q
done_or true p q = inl (p refl)
done_or false p q = inr (q refl)

same_or_not : (a b : Bool) → (a ≡ b) ⊎ (a ≢ b)
same_or_not true true = inl refl
same_or_not false false = inl refl
same_or_not true false = inr (λ e. cc)
same_or_not false true = inr (λ e. cc)

pub stays_worked : {S I C : Type 0} (old new : Run S I C) (goes : Goes old new) (entries : AreEntries old.entries.bank (items old)) (i j : ℕ) → i ≤ length (items old) → j ≤ length (items old)
    → IsWorkedWith old i j → IsWorkedWith new i j
stays_worked old new goes entries i j a b there =
    let (more, q) = entries_grow old new goes entries in
    let es = entries_in old.entries.bank (items old) in
    let e : length es ≡ length (items old) = length_map (λ (x : Item). record { clause = clause_at old.entries.bank x.0; origin = origin_of x.1 }) (items old) in
    transport (λ (x : List Entry). IsWorked x new.selection.places (held_of new) i j) (sym q)
    (transport (λ (ps : List ℕ). IsWorked (es ++ more) ps (held_of new) i j) (sym (same_places goes.selection))
    (pair_stays_worked es more old.selection.places old.selection.places (held_of old) (held_of new) i j (held_grow old new goes entries) (omega (arith, e)) (omega (arith, e)) refl refl there))

pair_by_parts : {S I C : Type 0} (r : Run S I C) (i j : ℕ) (a b : Tree) (s : Sided) → IsMostGeneral s a b → IsSelectedTree r i a → IsSelectedTree r j b
    → IsWorkedWith r i j ⊎ IsSideWorked r s.left i j → IsWorkedWith r j i ⊎ IsSideWorked r s.right j i → IsPairWorked r i j
pair_by_parts r i j a b s g first second left right = (
  λ m n l o. (both m n l o).0 m n l o,
  λ n m o l. (both m n l o).1 n m o l,
)
  where
    both : (m n : SelectedClause) (l : IsPlaced (entries_in r.entries.bank (items r)) r.selection.places i m) (o : IsPlaced (entries_in r.entries.bank (items r)) r.selection.places j n) → IsWorkedWith r i j × IsWorkedWith r j i
    both m n l o = elim (same_or_not m.selected.positive n.selected.positive) [
      | inl e ↦ worked_same_sign (entries_in r.entries.bank (items r)) r.selection.places (held_of r) i j m n l o e
      | inr d ↦ worked_by_one (entries_in r.entries.bank (items r)) r.selection.places (held_of r) i j m n l o s general
          (λ p. elim left [ inl w ↦ w m n l o d s general p | inr w ↦ w m n l o p ])
          (λ p. elim right [ inl w ↦ w n m o l (λ e. d (sym e)) (swapped s) (swapped_general s m.selected.atom n.selected.atom general) p | inr w ↦ w n m o l p ])
    ]
      where
        general : IsMostGeneral s m.selected.atom n.selected.atom
        general = transport (λ x. IsMostGeneral s x n.selected.atom) (sym (placed_tree r i a m first l)) (transport (λ y. IsMostGeneral s a y) (sym (placed_tree r j b n second o)) g)

-- each side was worked before, or under one most general unifier now
pub parts_after : {S I C : Type 0} (old mid new : Run S I C) (i j : ℕ) (t u : Tree) (s : Sided) → Goes old mid → Goes mid new → AreEntries old.entries.bank (items old) → AreEntries mid.entries.bank (items mid)
    → (i ≤ length (items old)) × (j ≤ length (items old)) → (i ≤ length (items mid)) × (j ≤ length (items mid)) → IsMostGeneral s t u → IsSelectedTree old i t → IsSelectedTree old j u
    → IsWorkedWith old i j ⊎ IsSideWorked mid s.left i j → IsWorkedWith old j i ⊎ IsSideWorked new s.right j i → IsPairWorked new i j
parts_after old mid new i j t u s g h entries later (a, b) (c, d) general first second left right =
    pair_by_parts new i j t u s general
    (tree_stays mid new h later i t (tree_stays old mid g entries i t first)) (tree_stays mid new h later j u (tree_stays old mid g entries j u second))
    (elim left [ inl w ↦ inl (stays_worked mid new h later i j c d (stays_worked old mid g entries i j a b w)) | inr w ↦ inr (side_stays mid new h later s.left i j c d w) ])
    (elim right [ inl w ↦ inl (stays_worked mid new h later j i d c (stays_worked old mid g entries j i b a w)) | inr w ↦ inr w ])

-- an indexed entry that was worked with the partner
pub indexed_stays : {S I C : Type 0} (old new : Run S I C) → Goes old new → AreEntries old.entries.bank (items old) → length old.selection.places ≤ length (items old) → (indexed : Option ℕ) (j : ℕ)
    → j ≤ length old.selection.places → IfSome indexed (λ k. (0 < k) × (k ≤ length old.selection.places) × IsPairWorked old k j) → IfSome indexed (λ k. (0 < k) × (k ≤ length new.selection.places) × IsPairWorked new k j)
indexed_stays old new goes entries within indexed j short h = if_some_weaker indexed (λ k (a, b, w). (
  a,
  transport (λ (ps : List ℕ). k ≤ length ps) (sym (same_places goes.selection)) b,
  pair_stays old new goes entries k j (omega (arith, b, within)) (omega (arith, short, within)) w,
)) h

-- the first pair of a walk is one of the index
pub found_in : {E : Type 0} (res : Result (Option ℕ) E) (ps : List Posting) (before after : Posting → Type 0) (N M : Type 0) → ((p : Posting) → before p → Contains ps p)
    → IfOk res (λ r. MatchOption r N (λ entry. Gives before entry after × M)) → IfOk res (λ o. IfSome o (λ k. (atom : ℕ) × Contains ps (atom, k)))
found_in (Ok None) ps before after N M stored h = tt
found_in (Ok (Some k)) ps before after N M stored h = let (atom, here, rest) = h.0 in (atom, stored (atom, k) here)
found_in (Err e) ps before after N M stored h = tt
