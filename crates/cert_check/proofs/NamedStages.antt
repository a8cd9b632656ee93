-- The covers that were found for a saturation are named ones.
use Rattle.std.proofs.Common.{◌≡◌, ℕ, List, [], ap, sym, subst, map}
use Rattle.std.specs.Prelude.{All}
use Rattle.std.proofs.lemmas.List.Elements.{All-nil}
use Rattle.inst_logic.specs.Derivations.{at_number}
use Rattle.inst_calculus.specs.Axioms.{with_axioms}
use Rattle.cert_format.specs.Certificate as format
use Rattle.cert_format.specs.Dues.{Due, AreDue}
use Rattle.cert_format.specs.Validity.{IsNamed, IsRightPair, IsShownInput, IsValidBase, JustifiesAt}
use Rattle.cert_values.specs.declared.certificate.By.{By}
use Rattle.cert_values.specs.declared.certificate.Cover.{Cover}
use Rattle.cert_values.specs.declared.certificate.Covered.{Covered}
use Rattle.cert_values.specs.declared.certificate.Saturation.{Saturation}
use Rattle.cert_values.specs.Values.{base_of, by_of, covered_of, saturation_of}
use Rattle.cert_values.specs.Wholes.{HasPlaces, IsWholeBy, IsWholeCover, IsWholeCovered, IsWholeSaturation}
use Rattle.cert_values.proofs.Grown.{bys_same}
use Rattle.cert_values.proofs.Kept.{saturation_same}
use Rattle.cert_check.specs.DueSteps.{AreNamed, GrowsCovers}
use Rattle.cert_check.proofs.CoveredStages.{all_right}
use Rattle.cert_check.proofs.DueLaws.{all_named}

pub named_by : (c : Covered) → IsValidBase (base_of c.cert.base) → HasPlaces (saturation_of c.cert) → ((k : ℕ) → IsShownInput (covered_of c) k) → ((l r : ℕ) → IsRightPair (saturation_of c.cert) l r)
    → (ds : List Due) → AreDue (saturation_of c.cert) ds → AreNamed (covered_of c) ds → IsNamed (covered_of c)
named_by c base placed shown pairs ds due named =
    all_right (covered_of c) base placed shown (λ l r less m n i j o u g. (pairs l r less m n i j o u g).proper) (all_named (covered_of c) ds due named)

-- what justifies the inputs stays while the bank and the covers grow
pub shown_stays : (old new : Covered) → IsWholeCovered old → GrowsCovers old new → (k : ℕ) → IsShownInput (covered_of old) k → IsShownInput (covered_of new) k
shown_stays old new whole kept k h =
    let same : saturation_of new.cert ≡ saturation_of old.cert = saturation_same old.cert new.cert whole.cert kept.cert in
    let list : new.shown ≡ old.shown = ap (λ (x : Covered). x.shown) kept.rest in
    let shown : map (by_of new.cert.base.bank) new.shown ≡ map (by_of old.cert.base.bank) old.shown =
    subst (λ (bs : List By). map (by_of new.cert.base.bank) bs ≡ map (by_of old.cert.base.bank) old.shown) (sym list) (bys_same old.cert.base.bank new.cert.base.bank kept.cert.base.bank old.shown whole.shown) in
    subst (λ (s : format.Saturation). JustifiesAt s.base.members (at_number (with_axioms s.base.inputs) k) (at_number (map (by_of new.cert.base.bank) new.shown) k)) (sym same)
    (subst (λ (bs : List format.By). JustifiesAt (saturation_of old.cert).base.members (at_number (with_axioms (saturation_of old.cert).base.inputs) k) (at_number bs k)) (sym shown) h)

pub empty_whole : (s : Saturation) → IsWholeSaturation s → (bs : List By) (vs : List Cover) → bs ≡ [] → vs ≡ [] → IsWholeCovered (record { cert = s; shown = bs; covers = vs })
empty_whole s whole bs vs none empty = record {
  cert = whole;
  shown = subst (All (IsWholeBy s.base.bank)) (sym none) (All-nil (IsWholeBy s.base.bank));
  covers = subst (All (IsWholeCover s.base.bank)) (sym empty) (All-nil (IsWholeCover s.base.bank));
}
