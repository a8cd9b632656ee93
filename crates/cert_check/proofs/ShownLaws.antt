-- What is named for the inputs and axioms.
use Rattle.std.proofs.Common.{◌≡◌, ◌≢◌, ◌↔◌, inl, inr, ℕ, zero, suc, ◌+◌, ◌-◌, ◌<◌, ◌≤◌, List, [], ◌∷◌, ◌++◌, length, get_or, map, Bool, true, false, Option, None, Some, refl, ap, sym, ◌∙◌, subst, arith}
use Rattle.std.specs.Prelude.{IsTrue, slice_get, option_map}
use Rattle.std.proofs.lemmas.Bool.{cases_lt}
use Rattle.std.proofs.lemmas.List.{length-append, length-map, map-append}
use Rattle.std.proofs.lemmas.Option.{same_Some, slice_get-get_or, slice_get-map, slice_get_within}
use Rattle.inst_logic.specs.declared.signed.Signed.{Signed}
use Rattle.inst_logic.specs.Clauses.{TreeClause}
use Rattle.inst_logic.specs.Derivations.{at_number}
use Rattle.inst_calculus.specs.Axioms.{with_axioms}
use Rattle.inst_calculus.specs.Entries.{Entry}
use Rattle.cert_format.specs.Certificate as format
use Rattle.cert_format.specs.TermLists.{Justifies}
use Rattle.cert_format.specs.Validity.{IsRightInput, IsShownInput, IsValidBase, JustifiesAt}
use Rattle.term_bank.specs.Forest.{clause_at}
use Rattle.cert_values.specs.declared.certificate.By.{By}
use Rattle.cert_values.specs.declared.certificate.Covered.{Covered}
use Rattle.cert_values.specs.declared.certificate.Saturation.{Saturation}
use Rattle.cert_values.specs.Values.{base_of, by_of, covered_of, saturation_of}
use Rattle.cert_values.specs.Wholes.{IsWholeBy, IsWholeCovered, KeepsSaturation}
use Rattle.cert_values.proofs.Grown.{bys_same}
use Rattle.cert_check.specs.Names.{IsShownBy, IsUnshown, JustifiesInput}
use Rattle.cert_check.proofs.DueLaws.{slice_left, slice_end, slice_past}
use Rattle.cert_check.proofs.InputScans.{all_stated, right_input, stated_at}

-- ---- one clause

module _ (c : Saturation) (valid : IsValidBase (base_of c.base)) (k : ℕ) where
  pub nothing_stated : at_number (c.base.inputs ++ c.base.axioms) k ≡ None → ¬ (at_number (with_axioms (saturation_of c).base.inputs) k ≢ None)
  nothing_stated none some = some (stated_at c valid k ∙ ap (option_map (clause_at c.base.bank)) none)

  module _ (d : List (Signed ℕ)) (at : at_number (c.base.inputs ++ c.base.axioms) k ≡ Some d) where
    there : at_number (with_axioms (saturation_of c).base.inputs) k ≡ Some (clause_at c.base.bank d)
    there = stated_at c valid k ∙ ap (option_map (clause_at c.base.bank)) at

    pub input_shown : (new : Saturation) (by : By) → IsShownBy c.base.bank new.base.bank c.base.members d by → JustifiesInput c new k by
    input_shown new by h = record {
      whole = h.whole;
      justified = λ e here. subst (λ (x : TreeClause). Justifies (saturation_of c).base.members x (by_of new.base.bank by)) (same_Some (clause_at c.base.bank d) e (sym there ∙ here)) h.justified;
    }

    pub input_right : (new : Saturation) (by : By) → IsShownBy c.base.bank new.base.bank c.base.members d by → IsRightInput (saturation_of c) k
    input_right new by h = (right_input c valid k d at).0 h.met

    pub input_wrong : IsUnshown c.base.bank c.base.members d → ¬ IsRightInput (saturation_of c) k
    input_wrong none right = none ((right_input c valid k d at).1 right)

    -- what is named for it
    pub shown_there : (bs : List format.By) (r : Bool) (o : Option format.By) → at_number bs k ≡ o → IsTrue r ↔ JustifiesAt (saturation_of c).base.members (Some (clause_at c.base.bank d)) o
        → IsTrue r ↔ JustifiesAt (saturation_of c).base.members (at_number (with_axioms (saturation_of c).base.inputs) k) (at_number bs k)
    shown_there bs r o here law =
        subst (λ x. IsTrue r ↔ JustifiesAt (saturation_of c).base.members x (at_number bs k)) (sym there) (subst (λ x. IsTrue r ↔ JustifiesAt (saturation_of c).base.members (Some (clause_at c.base.bank d)) x) (sym here) law)

  none_at : (es : List Entry) (bs : List format.By) → 0 < k → (r : Bool) → (r ≡ true → length bs < k) → (r ≡ false → k ≤ length bs) → IsTrue r ↔ JustifiesAt es None (at_number bs k)
  none_at es bs positive r y n = go k positive y n
    where
      at_past : (xs : List format.By) (i : ℕ) → length xs ≤ i → JustifiesAt es None (slice_get xs i)
      at_past [] i past = tt
      at_past (x ∷ xs) zero past = absurd (omega (arith, past))
      at_past (x ∷ xs) (suc i) past = at_past xs i (omega (arith, past))

      not_within : (xs : List format.By) (i : ℕ) → i < length xs → ¬ JustifiesAt es None (slice_get xs i)
      not_within [] i within h = absurd (omega (arith, within))
      not_within (x ∷ xs) zero within h = h
      not_within (x ∷ xs) (suc i) within h = not_within xs i (omega (arith, within)) h

      by : (b : Bool) (i : ℕ) → (b ≡ true → length bs < suc i) → (b ≡ false → suc i ≤ length bs) → IsTrue b ↔ JustifiesAt es None (slice_get bs i)
      by true i y n = ((λ t. at_past bs i (let w = y refl in omega (arith, w))), (λ h. refl))
      by false i y n = ((λ t. absurd (let e : false ≡ true = t in cc)), (λ h. absurd (not_within bs i (let w = n refl in omega (arith, w)) h)))

      go : (m : ℕ) → 0 < m → (r ≡ true → length bs < m) → (r ≡ false → m ≤ length bs) → IsTrue r ↔ JustifiesAt es None (at_number bs m)
      go zero p y n = absurd (omega (arith, p))
      go (suc i) p y n = by r i y n

  pub shown_alone : at_number (c.base.inputs ++ c.base.axioms) k ≡ None → (bs : List format.By) → 0 < k → (r : Bool) → (r ≡ true → length bs < k) → (r ≡ false → k ≤ length bs)
      → IsTrue r ↔ JustifiesAt (saturation_of c).base.members (at_number (with_axioms (saturation_of c).base.inputs) k) (at_number bs k)
  shown_alone none bs positive r y n =
      subst (λ x. IsTrue r ↔ JustifiesAt (saturation_of c).base.members x (at_number bs k)) (sym (stated_at c valid k ∙ ap (option_map (clause_at c.base.bank)) none)) (none_at (saturation_of c).base.members bs positive r y n)

-- ---- one more of the list

shown_push : (es : List Entry) (ds : List TreeClause) (bs : List format.By) (b : format.By) (i : ℕ) → length bs ≡ i → (d : TreeClause) → slice_get ds i ≡ Some d → Justifies es d b
    → ((k : ℕ) → k < i → JustifiesAt es (slice_get ds k) (slice_get bs k)) → (k : ℕ) → k < i + 1 → JustifiesAt es (slice_get ds k) (slice_get (bs ++ b ∷ []) k)
shown_push es ds bs b i count d at justified before k less = elim (cases_lt k i) [
  | inl early ↦ subst (JustifiesAt es (slice_get ds k)) (sym (slice_left bs (b ∷ []) k (omega (arith, early, count)))) (before k early)
  | inr late ↦
      let e : i ≡ k = omega (arith, late, less) in
      subst (λ x. JustifiesAt es (slice_get ds x) (slice_get (bs ++ b ∷ []) x)) e
      (subst (λ x. JustifiesAt es x (slice_get (bs ++ b ∷ []) i)) (sym at) (subst (JustifiesAt es (Some d)) (sym (slice_end bs b i (sym count))) justified))
]

slice_within : {A : Type 0} (xs : List A) (k : ℕ) → k < length xs → (x : A) × (slice_get xs k ≡ Some x)
slice_within [] k less = absurd (omega (arith, less))
slice_within (x ∷ xs) zero less = (x, refl)
slice_within (x ∷ xs) (suc k) less = slice_within xs k (omega (arith, less))

-- how many clauses there are
stated_length : (c : Saturation) → IsValidBase (base_of c.base) → length (with_axioms (saturation_of c).base.inputs) ≡ length c.base.inputs + length c.base.axioms
stated_length c valid = ap (λ xs. length xs) (all_stated c valid) ∙ length-map (c.base.inputs ++ c.base.axioms) (clause_at c.base.bank) ∙ length-append c.base.inputs c.base.axioms

pub stated_some : (c : Saturation) → IsValidBase (base_of c.base) → (i : ℕ) → i < length c.base.inputs + length c.base.axioms → at_number (with_axioms (saturation_of c).base.inputs) (suc i) ≢ None
stated_some c valid i less none =
    let (d, at) = slice_within (with_axioms (saturation_of c).base.inputs) i (omega (arith, less, stated_length c valid)) in
    let e : Some d ≡ None = sym at ∙ none in
    absurd cc

module _ (old : Covered) (s : Saturation) (whole : IsWholeCovered old) (kept : KeepsSaturation old.cert s) (by : By) (i : ℕ) where
  pub shown_more : IsValidBase (base_of old.cert.base) → i < length old.cert.base.inputs + length old.cert.base.axioms → length old.shown ≡ i → JustifiesInput old.cert s (suc i) by
      → ((k : ℕ) → k < i → JustifiesAt (saturation_of old.cert).base.members (slice_get (with_axioms (saturation_of old.cert).base.inputs) k) (slice_get (covered_of old).shown k))
      → (k : ℕ) → k < i + 1 → JustifiesAt (saturation_of old.cert).base.members (slice_get (with_axioms (saturation_of old.cert).base.inputs) k) (slice_get (map (by_of s.base.bank) (old.shown ++ by ∷ [])) k)
  shown_more valid within count justified before =
      let f = old.cert.base.bank in
      let g = s.base.bank in
      let (d, at) = slice_within (with_axioms (saturation_of old.cert).base.inputs) i (omega (arith, within, stated_length old.cert valid)) in
      let same : map (by_of f) old.shown ++ by_of g by ∷ [] ≡ map (by_of g) (old.shown ++ by ∷ []) =
      ap (λ xs. xs ++ by_of g by ∷ []) (sym (bys_same f g kept.base.bank old.shown whole.shown)) ∙ sym (map-append (by_of g) old.shown (by ∷ [])) in
      let long : length (map (by_of f) old.shown) ≡ i = length-map old.shown (by_of f) ∙ count in
      subst (λ xs. (k : ℕ) → k < i + 1 → JustifiesAt (saturation_of old.cert).base.members (slice_get (with_axioms (saturation_of old.cert).base.inputs) k) (slice_get xs k)) same
      (shown_push (saturation_of old.cert).base.members (with_axioms (saturation_of old.cert).base.inputs) (map (by_of f) old.shown) (by_of g by) i long d at (justified.justified d at) before)

-- all of them
pub all_shown : (c : Covered) → IsValidBase (base_of c.cert.base) → (i : ℕ) → length c.cert.base.inputs + length c.cert.base.axioms ≤ i → length c.shown ≡ i
    → ((k : ℕ) → k < i → JustifiesAt (saturation_of c.cert).base.members (slice_get (with_axioms (saturation_of c.cert).base.inputs) k) (slice_get (covered_of c).shown k)) → (n : ℕ) → IsShownInput (covered_of c) n
all_shown c valid i past count before zero = tt
all_shown c valid i past count before (suc k) = elim (cases_lt k i) [
  | inl early ↦ before k early
  | inr late ↦
      let es = (saturation_of c.cert).base.members in
      let none : slice_get (with_axioms (saturation_of c.cert).base.inputs) k ≡ None = slice_past (with_axioms (saturation_of c.cert).base.inputs) k (omega (arith, late, past, stated_length c.cert valid)) in
      let empty : slice_get (covered_of c).shown k ≡ None = slice_past (covered_of c).shown k (omega (arith, late, count, length-map c.shown (by_of c.cert.base.bank))) in
      subst (λ x. JustifiesAt es x (slice_get (covered_of c).shown k)) (sym none) (subst (JustifiesAt es None) (sym empty) tt)
]

-- the first that is wrong, or none past the longer list
pub first_unshown : (c : Covered) (i : ℕ) → ((k : ℕ) → k < i → IsShownInput (covered_of c) (suc k)) → (m : ℕ) → m < suc i → IsShownInput (covered_of c) m
first_unshown c i before zero less = tt
first_unshown c i before (suc k) less = before k (omega (arith, less))

pub none_unshown : (c : Covered) → IsValidBase (base_of c.cert.base) → (i : ℕ) → length c.cert.base.inputs + length c.cert.base.axioms ≤ i → length c.shown ≤ i
    → ((k : ℕ) → k < i → IsShownInput (covered_of c) (suc k)) → (n : ℕ) → IsShownInput (covered_of c) n
none_unshown c valid i past short before zero = tt
none_unshown c valid i past short before (suc k) = elim (cases_lt k i) [
  | inl early ↦ before k early
  | inr late ↦
      let es = (saturation_of c.cert).base.members in
      let none : slice_get (with_axioms (saturation_of c.cert).base.inputs) k ≡ None = slice_past (with_axioms (saturation_of c.cert).base.inputs) k (omega (arith, late, past, stated_length c.cert valid)) in
      let empty : slice_get (covered_of c).shown k ≡ None = slice_past (covered_of c).shown k (omega (arith, late, short, length-map c.shown (by_of c.cert.base.bank))) in
      subst (λ x. JustifiesAt es x (slice_get (covered_of c).shown k)) (sym none) (subst (JustifiesAt es None) (sym empty) tt)
]

-- ---- what is named for a number

pub short_list : (r : Bool) (n k : ℕ) → (IsTrue r ↔ (n < k)) → r ≡ false → k ≤ n
short_list r n k law e = elim (cases_lt n k) [ inl less ↦ absurd (let t : false ≡ true = sym e ∙ law.1 less in cc) | inr more ↦ more ]

pub by_there : (c : Covered) (k : ℕ) (o : Option By) → 0 < k → slice_get c.shown (k - 1) ≡ o → at_number (covered_of c).shown k ≡ option_map (by_of c.cert.base.bank) o
by_there c zero o positive at = absurd (omega (arith, positive))
by_there c (suc i) o positive at =
    let e : suc i - 1 ≡ i = omega arith in
    slice_get-map (by_of c.cert.base.bank) c.shown i ∙ ap (option_map (by_of c.cert.base.bank)) (subst (λ n. slice_get c.shown n ≡ o) e at)

pub whole_by_at : (c : Covered) → IsWholeCovered c → (i : ℕ) (by : By) → slice_get c.shown i ≡ Some by → IsWholeBy c.cert.base.bank by
whole_by_at c whole i by at =
    let within = slice_get_within c.shown i by at in
    let same : get_or c.shown i by ≡ by = same_Some (get_or c.shown i by) by (sym (slice_get-get_or c.shown i by within) ∙ at) in
    subst (IsWholeBy c.cert.base.bank) same (whole.shown i by within)

pub none_shows : (es : List Entry) (d : TreeClause) → IsTrue false ↔ JustifiesAt es (Some d) None
none_shows es d = ((λ t. absurd (let e : false ≡ true = t in cc)), (λ h. absurd h))
