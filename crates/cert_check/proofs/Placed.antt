-- The places of the selected literals.
use Rattle.std.proofs.Common.{◌≡◌, ℕ, zero, suc, ◌<◌, ◌≤◌, max, List, length, map, get_or, None, Some, true, ap, sym, ◌∙◌, arith}
use Rattle.std.specs.Prelude.{slice_get, option_map}
use Rattle.std.proofs.lemmas.List.{length-map}
use Rattle.std.proofs.lemmas.Option.{slice_get-map, slice_get_within, slice_get-get_or}
use Rattle.inst_logic.specs.declared.signed.Signed.{Signed}
use Rattle.inst_logic.specs.Derivations.{at_number}
use Rattle.inst_logic.specs.Tree.{Tree}
use Rattle.inst_calculus.specs.Entries.{Entry}
use Rattle.term_bank.specs.Forest.{literal_tree, Forest, clause_at}
use Rattle.cert_format.specs.Validity.{IsRightPlace}
use Rattle.cert_format.proofs.Selected.{is_placed}
use Rattle.cert_format.proofs.Numbers.{same_item}
use Rattle.cert_values.specs.declared.member.Member.{Member}
use Rattle.cert_values.specs.declared.certificate.Saturation.{Saturation}
use Rattle.cert_values.specs.Values.{saturation_of, entry_of}
use Rattle.cert_check.specs.Firsts.{IsFirstWrong}

module _ (c : Saturation) (i : ℕ) where
  entry_here : (x : Member) → slice_get c.base.members i ≡ Some x → slice_get (map (entry_of c.base.bank) c.base.members) i ≡ Some (entry_of c.base.bank x)
  entry_here x at = slice_get-map (entry_of c.base.bank) c.base.members i ∙ ap (option_map (entry_of c.base.bank)) at

  literal_here : (f : Forest) (ls : List (Signed ℕ)) (q : ℕ) → q < length ls → at_number (clause_at f ls) (suc q) ≡ Some (literal_tree f (get_or ls q (record { positive = true; atom = 0 })))
  literal_here f ls q h = slice_get-map (literal_tree f) ls q ∙ ap (option_map (literal_tree f)) (slice_get-get_or ls q (record { positive = true; atom = 0 }) h)

  pub placed_right : (x : Member) (p : ℕ) → slice_get c.base.members i ≡ Some x → slice_get c.places i ≡ Some p → 0 < p → p ≤ length x.clause → IsRightPlace (saturation_of c) (suc i)
  placed_right x zero at place above within = absurd (omega arith)
  placed_right x (suc q) at place above within =
      λ a b. is_placed (saturation_of c) (suc i) (entry_of c.base.bank x) (suc q) (literal_tree c.base.bank (get_or x.clause q (record { positive = true; atom = 0 })))
      (entry_here x at) place (literal_here c.base.bank x.clause q (omega arith))

  pub not_placed : i < max (length c.base.members) (length c.places) → (x : Member) (p : ℕ) → slice_get c.base.members i ≡ Some x → slice_get c.places i ≡ Some p
      → ¬ ((0 < p) × (p ≤ length x.clause)) → ¬ IsRightPlace (saturation_of c) (suc i)
  not_placed within x p at place outside right =
      let (m, s) = right (omega arith) (omega (arith, length-map c.base.members (entry_of c.base.bank))) in
      let e : s.entry ≡ entry_of c.base.bank x = same_item (slice_get (map (entry_of c.base.bank) c.base.members) i) s.entry (entry_of c.base.bank x) s.entry_at (entry_here x at) in
      let q : s.place ≡ p = same_item (slice_get c.places i) s.place p s.place_at place in
      let l : at_number (clause_at c.base.bank x.clause) p ≡ Some m.selected =
      sym (ap (λ (y : Entry). at_number y.clause s.place) e ∙ ap (at_number (clause_at c.base.bank x.clause)) q) ∙ s.selected in
      inside p m.selected l outside
    where
      inside : (k : ℕ) (l : Signed Tree) → at_number (clause_at c.base.bank x.clause) k ≡ Some l → ¬ ((0 < k) × (k ≤ length x.clause)) → ⊥
      inside zero l e other = absurd cc
      inside (suc k) l e other =
          let w : k < length (clause_at c.base.bank x.clause) = slice_get_within (clause_at c.base.bank x.clause) k l e in
          let v : length (clause_at c.base.bank x.clause) ≡ length x.clause = length-map x.clause (literal_tree c.base.bank) in
          other (omega arith, omega arith)

  pub no_place : i < max (length c.base.members) (length c.places) → slice_get c.places i ≡ None → ¬ IsRightPlace (saturation_of c) (suc i)
  no_place within none right =
      let (m, s) = right (omega arith) (omega (arith, length-map c.base.members (entry_of c.base.bank))) in
      let e : None ≡ Some s.place = sym none ∙ s.place_at in
      cc

-- the first place that is wrong, and places that are all right
module _ (c : Saturation) (i : ℕ) (before : (k : ℕ) → k < i → IsRightPlace (saturation_of c) (suc k)) where
  pub first_place : ¬ IsRightPlace (saturation_of c) (suc i) → IsFirstWrong (IsRightPlace (saturation_of c)) (suc i)
  first_place wrong = record { applies = wrong; before = earlier }
    where
      earlier : (m : ℕ) → m < suc i → IsRightPlace (saturation_of c) m
      earlier zero h = λ a b. absurd (omega arith)
      earlier (suc k) h = before k (omega arith)

  pub all_placed : max (length c.base.members) (length c.places) ≤ i → (n : ℕ) → IsRightPlace (saturation_of c) n
  all_placed past zero a b = absurd (omega arith)
  all_placed past (suc k) a b = before k (omega (arith, length-map c.base.members (entry_of c.base.bank))) a b
