-- Selected literals by their numbers.
use Rattle.std.proofs.Common.{◌≡◌, ℕ, zero, suc, ◌<◌, ◌≤◌, ◌++◌, List, sym, ap, ◌∙◌, subst, length, arith, Some}
use Rattle.std.specs.Prelude.{slice_get}
use Rattle.inst_logic.specs.declared.signed.Signed.{Signed}
use Rattle.inst_logic.specs.Derivations.{at_number}
use Rattle.inst_logic.proofs.ShownLaws.{slice_get_append}
use Rattle.inst_calculus.proofs.Items.{same_item, slice_get_below, at_number_within}
use Rattle.instgen_run.specs.declared.state.Run.{Run}
use Rattle.instgen_run.specs.Selections.{Placing, AreUsers}
use Rattle.instgen_run.specs.Clauses.{Item}
use Rattle.instgen_run.specs.Loops.{IsLiteralPlace}

pub literal_of : (es : List Item) (places : List ℕ) → ((i : ℕ) → i < length places → IsLiteralPlace es places i) → (n p : ℕ) (e : Item) → at_number places n ≡ Some p → at_number es n ≡ Some e
    → (l : Signed ℕ) × (at_number e.0 p ≡ Some l)
literal_of es places h zero p e at here = absurd cc
literal_of es places h (suc i) p e at here =
    let k = h i (slice_get_below places i p at) in
    let q : k.place ≡ p = same_item (slice_get places i) k.place p k.place_at at in
    let r : k.item ≡ e = same_item (slice_get es i) k.item e k.item_at here in
    (k.literal, ap (λ (x : Item). at_number x.0 p) (sym r) ∙ ap (at_number k.item.0) (sym q) ∙ k.literal_at)

pub place_positive : (c : List (Signed ℕ)) (p : ℕ) (l : Signed ℕ) → at_number c p ≡ Some l → (0 < p) × (p ≤ length c)
place_positive c zero l e = absurd cc
place_positive c (suc i) l e = (omega arith, at_number_within c (suc i) l e)

pub same_places : {s t : Placing} → s ≡ t → s.places ≡ t.places
same_places e = ap (λ (p : Placing). p.places) e

-- users stay so where more abstractions follow
pub users_stay : {S I C : Type 0} (old new : Run S I C) → new.selection ≡ old.selection → ((more : List (List (Signed ℕ))) × (new.ground.literals ≡ old.ground.literals ++ more))
    → AreUsers old.ground.literals old.selection → AreUsers new.ground.literals new.selection
users_stay old new same (more, grown) h =
    subst (AreUsers new.ground.literals) (sym same) (subst (λ ls. AreUsers ls old.selection) (sym grown) (record {
      users = λ i l. let u = h.users i l in record {
        clause = u.clause;
        place = u.place;
        literal = u.literal;
        users = u.users;
        clause_at = slice_get_append old.ground.literals more i u.clause u.clause_at;
        place_at = u.place_at;
        literal_at = u.literal_at;
        users_at = u.users_at;
        among = u.among;
      };
      numbers = h.numbers;
    }))
