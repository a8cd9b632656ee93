-- A scan of the inputs and axioms that adds what justifies each.
use Rattle.std.proofs.Common.{◌≡◌, ◌≢◌, ◌∙◌, ℕ, suc, ◌+◌, ◌<◌, ◌≤◌, List, [], ◌∷◌, ◌++◌, length, map, None, ap, refl, sym, subst, arith, below_more}
use Rattle.std.specs.Prelude.{slice_get}
use Rattle.std.proofs.lemmas.List.{length-append}
use Rattle.std.proofs.lemmas.List.Elements.{All-push}
use Rattle.inst_logic.specs.Derivations.{at_number}
use Rattle.inst_calculus.specs.Axioms.{with_axioms}
use Rattle.cert_format.specs.Certificate as format
use Rattle.cert_format.specs.Validity.{IsRightInput, IsShownInput, IsValidBase, JustifiesAt}
use Rattle.cert_values.specs.declared.certificate.Base.{Base}
use Rattle.cert_values.specs.declared.certificate.By.{By}
use Rattle.cert_values.specs.declared.certificate.Covered.{Covered}
use Rattle.cert_values.specs.declared.certificate.Saturation.{Saturation}
use Rattle.cert_values.specs.Values.{base_of, by_of, covered_of, saturation_of}
use Rattle.cert_values.specs.Wholes.{IsWholeBy, IsWholeCovered, IsWholeSaturation, KeepsSaturation}
use Rattle.cert_values.proofs.Grown.{bys_grown, covers_grown}
use Rattle.cert_values.proofs.Kept.{saturation_same}
use Rattle.cert_check.specs.DueSteps.{GrowsShown}
use Rattle.cert_check.specs.Names.{JustifiesInput}
use Rattle.cert_check.proofs.CoverGrowth.{shown_itself, shown_trans}
use Rattle.cert_check.proofs.PairScans.{valid_kept}
use Rattle.cert_check.proofs.ShownLaws.{all_shown, shown_more, stated_some}

-- what was added justifies the first i of them
pub record ShowsUpTo (start now : Covered) (i : ℕ) : Type 0 where
  pub kept : GrowsShown start now
  pub whole : IsWholeCovered now
  pub count : length now.shown ≡ i
  pub right : (k : ℕ) → k < i → IsRightInput (saturation_of start.cert) (suc k)
  pub shown : (k : ℕ) → k < i → JustifiesAt (saturation_of now.cert).base.members (slice_get (with_axioms (saturation_of now.cert).base.inputs) k) (slice_get (covered_of now).shown k)

pub shows_none : (start : Covered) → IsWholeCovered start → start.shown ≡ [] → ShowsUpTo start start 0
shows_none start whole none = record {
  kept = shown_itself start;
  whole = whole;
  count = ap (λ (bs : List By). length bs) none;
  right = λ k less. absurd (omega (arith, less));
  shown = λ k less. absurd (omega (arith, less));
}

module _ (start now : Covered) (i : ℕ) (whole : IsWholeCovered start) (valid : IsValidBase (base_of start.cert.base)) (h : ShowsUpTo start now i) where
  base_there : now.cert.base ≡ record start.cert.base { bank = now.cert.base.bank }
  base_there = h.kept.cert.base.rest

  stated : length now.cert.base.inputs + length now.cert.base.axioms ≡ length start.cert.base.inputs + length start.cert.base.axioms
  stated = ap (λ (b : Base). length b.inputs + length b.axioms) base_there

  pub base_valid : IsValidBase (base_of now.cert.base)
  base_valid = valid_kept start.cert now.cert whole.cert h.kept.cert valid

  same : saturation_of now.cert ≡ saturation_of start.cert
  same = saturation_same start.cert now.cert whole.cert h.kept.cert

  module _ (within : i < length start.cert.base.inputs + length start.cert.base.axioms) where
    pub wrong_here : (at_number (with_axioms (saturation_of now.cert).base.inputs) (i + 1) ≢ None → ¬ IsRightInput (saturation_of now.cert) (i + 1)) → ¬ IsRightInput (saturation_of start.cert) (suc i)
    wrong_here none right =
        let e : i + 1 ≡ suc i = omega arith in
        none (subst (λ n. at_number (with_axioms (saturation_of now.cert).base.inputs) n ≢ None) (sym e) (stated_some now.cert base_valid i (omega (arith, within, stated))))
        (subst (λ n. IsRightInput (saturation_of now.cert) n) (sym e) (subst (λ (x : format.Saturation). IsRightInput x (suc i)) (sym same) right))

    module _ (s : Saturation) (by : By) (keeps : KeepsSaturation now.cert s) (here : IsWholeSaturation s) (justified : JustifiesInput now.cert s (i + 1) by) (right : IsRightInput (saturation_of now.cert) (i + 1)) where
      later : saturation_of s ≡ saturation_of now.cert
      later = saturation_same now.cert s h.whole.cert keeps

      number : i + 1 ≡ suc i
      number = omega arith

      pub shows_more : ShowsUpTo start (record now { cert = s; shown = now.shown ++ by ∷ [] }) (i + 1)
      shows_more = record {
        kept = shown_trans start now (record now { cert = s; shown = now.shown ++ by ∷ [] }) h.kept (record { cert = keeps; rest = refl });
        whole = record {
          cert = here;
          shown = All-push (IsWholeBy s.base.bank) now.shown by (bys_grown now.cert.base.bank s.base.bank keeps.base.bank now.shown h.whole.shown) justified.whole;
          covers = covers_grown now.cert.base.bank s.base.bank keeps.base.bank now.covers h.whole.covers;
        };
        count = length-append now.shown (by ∷ []) ∙ (let e = h.count in omega (arith, e));
        right = below_more (λ k. IsRightInput (saturation_of start.cert) (suc k)) i h.right
            (subst (λ (x : format.Saturation). IsRightInput x (suc i)) same (subst (λ n. IsRightInput (saturation_of now.cert) n) number right));
        shown = subst (λ (x : format.Saturation). (k : ℕ) → k < i + 1 → JustifiesAt x.base.members (slice_get (with_axioms x.base.inputs) k) (slice_get (map (by_of s.base.bank) (now.shown ++ by ∷ [])) k)) (sym later)
            (shown_more now s h.whole keeps by i base_valid (omega (arith, within, stated)) h.count (subst (λ n. JustifiesInput now.cert s n by) number justified) h.shown);
      }

  pub shows_all : length start.cert.base.inputs + length start.cert.base.axioms ≤ i → (n : ℕ) → IsShownInput (covered_of now) n
  shows_all past = all_shown now base_valid i (omega (arith, past, stated)) h.count h.shown

-- the list that was pushed to
pub pushed_shown : (start now : Covered) (s : Saturation) (by : By) (bs : List By) (i : ℕ) → bs ≡ now.shown ++ by ∷ [] → ShowsUpTo start (record now { cert = s; shown = now.shown ++ by ∷ [] }) i → ShowsUpTo start (record now { cert = s; shown = bs }) i
pushed_shown start now s by bs i is = subst (λ xs. ShowsUpTo start (record now { cert = s; shown = xs }) i) (sym is)
