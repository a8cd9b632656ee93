-- Selected literals of opposite signs, and the invariant of a run whose bindings change.
use Rattle.std.proofs.Common.{◌≡◌, ◌≢◌, ℕ, List, sym, ap, ◌∙◌, subst as transport, Bool}
use Rattle.inst_logic.specs.declared.signed.Signed.{Signed}
use Rattle.inst_logic.specs.Derivations.{at_number}
use Rattle.inst_logic.specs.Tree.{Tree}
use Rattle.inst_logic.specs.Unifiers.{Sided, IsMostGeneral, IsProper}
use Rattle.inst_calculus.proofs.Choice.{swapped_general}
use Rattle.engine_laws.proofs.Lists.{at_number_front}
use Rattle.inst_calculus.proofs.Items.{same_item, at_number_within}
use Rattle.term_bank.specs.Forest.{tree_at}
use Rattle.unify_core.specs.Bindings.{Bound_list}
use Rattle.unify_core.specs.Sides.{IsResolvedBy, of_side, of_pair}
use Rattle.unify_core.specs.declared.side.Side.{Side}
use Rattle.unify_core.specs.declared.side.Side.TheVariants.{Left, Right}
use Rattle.instgen_select.specs.Passives.{Passive_list}
use Rattle.instgen_run.proofs.Selected.{same_places}
use Rattle.instgen_run.specs.declared.state.Run.{Run}
use Rattle.instgen_run.specs.Loops.{items, Goes, IsSelectedLiteral, IsSelectedAtom, IsSigned}
use Rattle.instgen_run.specs.Running.{KeepsRunning, AreOpposite, ArePaired, from_side}

pub literal_stays : {S I C : Type 0} (old new : Run S I C) → Goes old new → (n : ℕ) (l : Signed ℕ) → IsSelectedLiteral old n l → IsSelectedLiteral new n l
literal_stays old new goes n l h = record {
  item = h.item;
  place = h.place;
  item_at = let (more, q) = goes.entries in ap (λ xs. at_number xs n) q ∙ at_number_front (items old) more n (at_number_within (items old) n h.item h.item_at) ∙ h.item_at;
  place_at = ap (λ xs. at_number xs n) (same_places goes.selection) ∙ h.place_at;
  literal_at = h.literal_at;
}

pub opposite_stays : {S I C : Type 0} (old new : Run S I C) → Goes old new → (i j : ℕ) → AreOpposite old i j → AreOpposite new i j
opposite_stays old new goes i j h = record {
  left = h.left;
  right = h.right;
  left_at = literal_stays old new goes i h.left h.left_at;
  right_at = literal_stays old new goes j h.right h.right_at;
  opposite = h.opposite;
}

pub signed_stays : {S I C : Type 0} (old new : Run S I C) → Goes old new → (n : ℕ) (b : Bool) → IsSigned old n b → IsSigned new n b
signed_stays old new goes n b (l, h, e) = (l, literal_stays old new goes n l h, e)

pub opposite_signs : {S I C : Type 0} (r : Run S I C) (i j : ℕ) (b c : Bool) → IsSigned r i b → IsSigned r j c → b ≢ c → AreOpposite r i j
opposite_signs r i j b c (k, h, p) (l, o, q) n = record { left = k; right = l; left_at = h; right_at = o; opposite = λ e. n (sym p ∙ e ∙ q) }

-- the atom that was found is that of the literal
pub same_atom : {S I C : Type 0} (r : Run S I C) (n a : ℕ) (l : Signed ℕ) → IsSelectedAtom r n a → IsSelectedLiteral r n l → a ≡ l.atom
same_atom r n a l h k =
    let p = same_item (at_number (items r) n) h.item k.item h.item_at k.item_at in
    let q = same_item (at_number r.selection.places n) h.place k.place h.place_at k.place_at in
    let e : h.literal ≡ l = same_item (at_number k.item.0 k.place) h.literal l (ap (λ (x : _). at_number x.0 k.place) (sym p) ∙ ap (at_number h.item.0) (sym q) ∙ h.literal_at) k.literal_at in
    h.atom ∙ ap (λ (x : Signed ℕ). x.atom) e

-- other bindings, or another queue
pub running_rebound : {S I C : Type 0} (atoms : S → ℕ) (added : S → List (List (Signed ℕ))) (r : Run S I C) (b : Bound_list) → KeepsRunning atoms added r (record r { bindings = b })
running_rebound atoms added r b bot cs budget v h = record {
  events = h.events;
  logged = h.logged;
  replays = h.replays;
  linked = record { constant = h.linked.constant; fits = h.linked.fits; count = h.linked.count; given = h.linked.given; same = h.linked.same; used = h.linked.used };
  bits = h.bits;
  width = h.width;
  places = h.places;
  left = h.left;
  light = h.light;
  free = h.free;
  budgeted = h.budgeted;
  none_held = h.none_held;
  held = h.held;
}

pub running_requeued : {S I C : Type 0} (atoms : S → ℕ) (added : S → List (List (Signed ℕ))) (r : Run S I C) (q : Passive_list) → KeepsRunning atoms added r (record r { queue = q })
running_requeued atoms added r q bot cs budget v h = record {
  events = h.events;
  logged = h.logged;
  replays = h.replays;
  linked = record { constant = h.linked.constant; fits = h.linked.fits; count = h.linked.count; given = h.linked.given; same = h.linked.same; used = h.linked.used };
  bits = h.bits;
  width = h.width;
  places = h.places;
  left = h.left;
  light = h.light;
  free = h.free;
  budgeted = h.budgeted;
  none_held = h.none_held;
  held = h.held;
}

pub literal_rebound : {S I C : Type 0} (r : Run S I C) (b : Bound_list) (n : ℕ) (l : Signed ℕ) → IsSelectedLiteral r n l → IsSelectedLiteral (record r { bindings = b }) n l
literal_rebound r b n l h = record { item = h.item; place = h.place; item_at = h.item_at; place_at = h.place_at; literal_at = h.literal_at }

pub opposite_swapped : {S I C : Type 0} (r : Run S I C) (i j : ℕ) → AreOpposite r i j → AreOpposite r j i
opposite_swapped r i j h = record { left = h.right; right = h.left; left_at = h.right_at; right_at = h.left_at; opposite = λ e. h.opposite (sym e) }

-- a most general unifier of both atoms pairs the entries, from either side
pub paired_left : {S I C : Type 0} (r : Run S I C) (i j a b : ℕ) (s : Sided) → AreOpposite r i j → IsSelectedAtom r i a → IsSelectedAtom r j b → IsResolvedBy r.entries.bank r.bindings.entries s
    → IsMostGeneral s (tree_at r.entries.bank a) (tree_at r.entries.bank b) → ArePaired r Left i j
paired_left r i j a b s o first second resolved general = record {
  literals = o;
  unifier = s;
  resolved = resolved;
  most_general = transport (λ x. IsMostGeneral s (tree_at r.entries.bank x) (tree_at r.entries.bank o.right.atom)) (same_atom r i a o.left first o.left_at)
      (transport (λ y. IsMostGeneral s (tree_at r.entries.bank a) (tree_at r.entries.bank y)) (same_atom r j b o.right second o.right_at) general);
}

pub paired_right : {S I C : Type 0} (r : Run S I C) (i j a b : ℕ) (s : Sided) → AreOpposite r j i → IsSelectedAtom r i a → IsSelectedAtom r j b → IsResolvedBy r.entries.bank r.bindings.entries s
    → IsMostGeneral s (tree_at r.entries.bank a) (tree_at r.entries.bank b) → ArePaired r Right j i
paired_right r i j a b s o first second resolved general = record {
  literals = o;
  unifier = s;
  resolved = resolved;
  most_general = swapped_general s (tree_at r.entries.bank o.right.atom) (tree_at r.entries.bank o.left.atom)
      (transport (λ x. IsMostGeneral s (tree_at r.entries.bank x) (tree_at r.entries.bank o.left.atom)) (same_atom r i a o.right first o.right_at)
      (transport (λ y. IsMostGeneral s (tree_at r.entries.bank a) (tree_at r.entries.bank y)) (same_atom r j b o.left second o.left_at) general));
}

-- what the bindings tell of the side is said of the pair
pub proper_paired : {S I C : Type 0} (r : Run S I C) (side : Side) (from partner : ℕ) (p : ArePaired r side from partner)
    → ((a b : Tree) (s : Sided) → IsResolvedBy r.entries.bank r.bindings.entries s → IsMostGeneral s a b → IsProper (of_side s side) (of_pair side a b))
    → IsProper (from_side side p.unifier).left (tree_at r.entries.bank p.literals.left.atom)
proper_paired r Left from partner p h = h (tree_at r.entries.bank p.literals.left.atom) (tree_at r.entries.bank p.literals.right.atom) p.unifier p.resolved p.most_general
proper_paired r Right from partner p h = h (tree_at r.entries.bank p.literals.right.atom) (tree_at r.entries.bank p.literals.left.atom) p.unifier p.resolved
    (swapped_general (record { left = p.unifier.right; right = p.unifier.left }) (tree_at r.entries.bank p.literals.left.atom) (tree_at r.entries.bank p.literals.right.atom) p.most_general)
