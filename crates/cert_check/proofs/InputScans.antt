-- The check that the members stand for the inputs and axioms.
use Rattle.std.proofs.Common.{◌≡◌, ◌⊎◌, ◌↔◌, inl, inr, ℕ, zero, suc, ◌+◌, ◌<◌, ◌≤◌, List, [], ◌∷◌, ◌++◌, length, map, get_or, Option, None, Some, refl, ap, ap₂, sym, ◌∙◌, subst, arith}
use Rattle.std.specs.Prelude.{slice_get, option_map, Any, All}
use Rattle.std.proofs.lemmas.List.{map-append, length-append}
use Rattle.std.proofs.lemmas.Option.{slice_get-map, slice_get_within, same_Some}
use Rattle.inst_logic.specs.declared.signed.Signed.{Signed}
use Rattle.inst_logic.specs.Tree.{var}
use Rattle.inst_logic.specs.Substitution.{subst_literal}
use Rattle.inst_logic.specs.Signed.{IsTautology}
use Rattle.inst_logic.specs.Clauses.{TreeClause, Subsumes}
use Rattle.inst_logic.specs.Derivations.{at_number}
use Rattle.inst_calculus.specs.Axioms.{equality_axioms, with_axioms}
use Rattle.inst_calculus.specs.Entries.{Entry}
use Rattle.inst_calculus.proofs.Membership.{◌∈◌, any_in, in_any, all_in, in_map, from_map, in_either, equal_in}
use Rattle.inst_calculus.proofs.Clauses.{literal_var, within_part}
use Rattle.term_bank.specs.Forest.{clause_at, IsClauseOf}
use Rattle.cert_format.specs.Validity.{IsRightInput}
use Rattle.cert_format.specs.declared.complaint.Complaint.TheVariants.{Axiom}
use Rattle.cert_values.specs.declared.member.Member.{Member}
use Rattle.cert_values.specs.declared.certificate.Saturation.{Saturation}
use Rattle.cert_values.specs.Values.{base_of, saturation_of, entry_of}
use Rattle.cert_values.specs.Wholes.{IsWholeClause, IsWholeSaturation}
use Rattle.cert_format.specs.Validity.{IsValidBase}
use Rattle.cert_check.specs.Firsts.{IsFirstWrong}

pub subsumes_itself : (d : TreeClause) → Subsumes d d
subsumes_itself d = (var, within_part var d d (λ l j. equal_in l (subst_literal var l) d (sym (literal_var l)) j))

-- lists with equal items at each place
same_items : {A : Type 0} (xs ys : List A) → ((k : ℕ) → slice_get xs k ≡ slice_get ys k) → xs ≡ ys
same_items [] [] h = refl
same_items [] (y ∷ ys) h = absurd (cc (h 0))
same_items (x ∷ xs) [] h = absurd (cc (h 0))
same_items (x ∷ xs) (y ∷ ys) h = ap₂ (λ z zs. z ∷ zs) (same_Some x y (h 0)) (same_items xs ys (λ k. h (suc k)))

module _ (c : Saturation) (valid : IsValidBase (base_of c.base)) where
  axioms_same : map (clause_at c.base.bank) c.base.axioms ≡ equality_axioms (map (clause_at c.base.bank) c.base.inputs)
  axioms_same = same_items _ _ (λ k. valid (Axiom (suc k)))

  pub all_stated : with_axioms (map (clause_at c.base.bank) c.base.inputs) ≡ map (clause_at c.base.bank) (c.base.inputs ++ c.base.axioms)
  all_stated = ap (λ xs. map (clause_at c.base.bank) c.base.inputs ++ xs) (sym axioms_same) ∙ sym (map-append (clause_at c.base.bank) c.base.inputs c.base.axioms)

  pub stated_at : (k : ℕ) → at_number (with_axioms (saturation_of c).base.inputs) k ≡ option_map (clause_at c.base.bank) (at_number (c.base.inputs ++ c.base.axioms) k)
  stated_at zero = refl
  stated_at (suc i) = ap (λ (xs : List TreeClause). slice_get xs i) all_stated ∙ slice_get-map (clause_at c.base.bank) (c.base.inputs ++ c.base.axioms) i

  to_entries : (d : TreeClause) → Any (λ (m : Member). Subsumes (clause_at c.base.bank m.clause) d) c.base.members → Any (λ (e : Entry). Subsumes e.clause d) (map (entry_of c.base.bank) c.base.members)
  to_entries d any =
      let (m, i, s) = any_in (λ (m : Member). Subsumes (clause_at c.base.bank m.clause) d) c.base.members any in
      in_any (λ (e : Entry). Subsumes e.clause d) (entry_of c.base.bank m) (map (entry_of c.base.bank) c.base.members) (in_map (entry_of c.base.bank) m c.base.members i) s

  from_entries : (d : TreeClause) → Any (λ (e : Entry). Subsumes e.clause d) (map (entry_of c.base.bank) c.base.members) → Any (λ (m : Member). Subsumes (clause_at c.base.bank m.clause) d) c.base.members
  from_entries d any =
      let (e, i, s) = any_in (λ (e : Entry). Subsumes e.clause d) (map (entry_of c.base.bank) c.base.members) any in
      let (m, j, same) = from_map (entry_of c.base.bank) e c.base.members i in
      in_any (λ (m : Member). Subsumes (clause_at c.base.bank m.clause) d) m c.base.members j (subst (λ (x : Entry). Subsumes x.clause d) (sym same) s)

  module _ (k : ℕ) where
    pub right_input : (d : List (Signed ℕ)) → at_number (c.base.inputs ++ c.base.axioms) k ≡ Some d
        → (IsTautology (clause_at c.base.bank d) ⊎ Any (λ (m : Member). Subsumes (clause_at c.base.bank m.clause) (clause_at c.base.bank d)) c.base.members) ↔ IsRightInput (saturation_of c) k
    right_input d here = (forward, back)
      where
        there : at_number (with_axioms (saturation_of c).base.inputs) k ≡ Some (clause_at c.base.bank d)
        there = stated_at k ∙ ap (option_map (clause_at c.base.bank)) here

        forward : (IsTautology (clause_at c.base.bank d) ⊎ Any (λ (m : Member). Subsumes (clause_at c.base.bank m.clause) (clause_at c.base.bank d)) c.base.members) → IsRightInput (saturation_of c) k
        forward h e at =
            let same : clause_at c.base.bank d ≡ e = same_Some (clause_at c.base.bank d) e (sym there ∙ at) in
            subst (λ (x : TreeClause). IsTautology x ⊎ Any (λ (y : Entry). Subsumes y.clause x) (map (entry_of c.base.bank) c.base.members)) same (elim h [ inl t ↦ inl t | inr any ↦ inr (to_entries (clause_at c.base.bank d) any) ])

        back : IsRightInput (saturation_of c) k → IsTautology (clause_at c.base.bank d) ⊎ Any (λ (m : Member). Subsumes (clause_at c.base.bank m.clause) (clause_at c.base.bank d)) c.base.members
        back h = elim (h (clause_at c.base.bank d) there) [ inl t ↦ inl t | inr any ↦ inr (from_entries (clause_at c.base.bank d) any) ]

  module _ (i : ℕ) where
    -- what the scan has passed
    module _ (before : (k : ℕ) → k < i → IsRightInput (saturation_of c) (suc k)) where
      pub first_input : ¬ IsRightInput (saturation_of c) (suc i) → IsFirstWrong (IsRightInput (saturation_of c)) (suc i)
      first_input wrong = record { applies = wrong; before = earlier }
        where
          earlier : (m : ℕ) → m < suc i → IsRightInput (saturation_of c) m
          earlier zero h = λ d at. absurd cc
          earlier (suc k) h = before k (omega arith)

      pub all_inputs : length c.base.inputs + length c.base.axioms ≤ i → (n : ℕ) → IsRightInput (saturation_of c) n
      all_inputs past zero d at = absurd cc
      all_inputs past (suc k) d at =
          let (l, l_at) = found k d at in
          let w : k < length (c.base.inputs ++ c.base.axioms) = slice_get_within (c.base.inputs ++ c.base.axioms) k l l_at in
          before k (omega (arith, length-append c.base.inputs c.base.axioms)) d at
        where
          found : (k : ℕ) (d : TreeClause) → at_number (with_axioms (saturation_of c).base.inputs) (suc k) ≡ Some d → (l : List (Signed ℕ)) × (slice_get (c.base.inputs ++ c.base.axioms) k ≡ Some l)
          found k d e = by_item (slice_get (c.base.inputs ++ c.base.axioms) k) refl (sym (stated_at (suc k)) ∙ e)
            where
              by_item : (o : Option (List (Signed ℕ))) → slice_get (c.base.inputs ++ c.base.axioms) k ≡ o → option_map (clause_at c.base.bank) o ≡ Some d → (l : List (Signed ℕ)) × (slice_get (c.base.inputs ++ c.base.axioms) k ≡ Some l)
              by_item None p q = absurd cc
              by_item (Some l) p q = (l, p)

pub member_ids : (c : Saturation) → IsWholeSaturation c → All (λ (m : Member). IsClauseOf c.base.bank m.clause) c.base.members
member_ids c whole k d h = (whole.members k d h).ids

pub stated_whole : (c : Saturation) → IsWholeSaturation c → (k : ℕ) (d : List (Signed ℕ)) → at_number (c.base.inputs ++ c.base.axioms) k ≡ Some d → IsWholeClause c.base.bank d
stated_whole c whole zero d at = absurd cc
stated_whole c whole (suc i) d at = go (in_either d c.base.inputs c.base.axioms (slice_get_in i d (c.base.inputs ++ c.base.axioms) at))
  where
    slice_get_in : (k : ℕ) (x : List (Signed ℕ)) (xs : List (List (Signed ℕ))) → slice_get xs k ≡ Some x → x ∈ xs
    slice_get_in k x [] e = absurd cc
    slice_get_in zero x (y ∷ ys) e = inl (sym (same_Some y x e))
    slice_get_in (suc k) x (y ∷ ys) e = inr (slice_get_in k x ys e)

    go : (d ∈ c.base.inputs) ⊎ (d ∈ c.base.axioms) → IsWholeClause c.base.bank d
    go (inl i) = all_in (IsWholeClause c.base.bank) c.base.inputs whole.inputs d i
    go (inr i) = all_in (IsWholeClause c.base.bank) c.base.axioms whole.axioms d i

pub stated_ids : (c : Saturation) → IsWholeSaturation c → (k : ℕ) (d : List (Signed ℕ)) → at_number (c.base.inputs ++ c.base.axioms) k ≡ Some d → IsClauseOf c.base.bank d
stated_ids c whole k d at = (stated_whole c whole k d at).ids

-- none of the items was found
pub none_any : {A : Type 0} (P : A → Type 0) (xs : List A) (n : ℕ) → ((k : ℕ) → k < n → (d : A) → ¬ P (get_or xs k d)) → length xs ≤ n → ¬ Any P xs
none_any P xs n none past (k, x, l, e, p) = none k (omega arith) x (subst P (sym e) p)
