-- Certificates whose bank and covers have grown.
use Rattle.std.proofs.Common.{◌≡◌, ℕ, ◌≤◌, length, List, [], ◌∙◌, ap, refl, sym, subst, map}
use Rattle.std.specs.List.{AllZip}
use Rattle.cert_format.specs.Validity.{IsCoverOf}
use Rattle.cert_values.specs.declared.certificate.Cover.{Cover}
use Rattle.cert_values.specs.declared.certificate.Covered.{Covered}
use Rattle.cert_values.specs.Values.{cover_of, covered_of, saturation_of}
use Rattle.cert_values.specs.Wholes.{IsWholeCovered, KeepsCovered}
use Rattle.cert_check.specs.Compared.{IsComparable}
use Rattle.cert_check.specs.DueSteps.{AreNamed, GrowsCovers, GrowsShown}
use Rattle.cert_check.proofs.PairScans.{keeps_itself, placed_kept, valid_kept}
use Rattle.cert_check.proofs.Saturations.{keeps_saturation_trans}

pub grows_itself : (c : Covered) → GrowsCovers c c
grows_itself c = record { cert = keeps_itself c.cert; rest = refl }

pub grows_trans : (a b c : Covered) → GrowsCovers a b → GrowsCovers b c → GrowsCovers a c
grows_trans a b c p q = record {
  cert = keeps_saturation_trans a.cert b.cert c.cert p.cert q.cert;
  rest = q.rest ∙ ap (λ (x : Covered). record x { cert = c.cert; covers = c.covers }) p.rest;
}

pub shown_itself : (c : Covered) → GrowsShown c c
shown_itself c = record { cert = keeps_itself c.cert; rest = refl }

pub shown_trans : (a b c : Covered) → GrowsShown a b → GrowsShown b c → GrowsShown a c
shown_trans a b c p q = record {
  cert = keeps_saturation_trans a.cert b.cert c.cert p.cert q.cert;
  rest = q.rest ∙ ap (λ (x : Covered). record x { cert = c.cert; shown = c.shown }) p.rest;
}

pub none_named : (c : Covered) → c.covers ≡ [] → AreNamed (covered_of c) []
none_named c none = subst (λ (vs : List Cover). AllZip (IsCoverOf (saturation_of c.cert).base.members) [] (map (cover_of c.cert.base.bank) vs)) (sym none) tt

pub covered_itself : (c : Covered) → KeepsCovered c c
covered_itself c = record { cert = keeps_itself c.cert; rest = refl }

pub covered_trans : (a b c : Covered) → KeepsCovered a b → KeepsCovered b c → KeepsCovered a c
covered_trans a b c p q = record {
  cert = keeps_saturation_trans a.cert b.cert c.cert p.cert q.cert;
  rest = q.rest ∙ ap (λ (x : Covered). record x { cert = c.cert }) p.rest;
}

-- what a comparison stands on stays
pub comparable_kept : (old new : Covered) → IsComparable old → KeepsCovered old new → IsWholeCovered new → IsComparable new
comparable_kept old new h kept whole = record {
  whole = whole;
  base = valid_kept old.cert new.cert h.whole.cert kept.cert h.base;
  placed = placed_kept old.cert new.cert h.whole.cert kept.cert h.placed;
}

pub counted_kept : (old new : Covered) → KeepsCovered old new → (n : ℕ) → n ≤ length old.covers → n ≤ length new.covers
counted_kept old new kept n less = subst (λ (vs : List Cover). n ≤ length vs) (sym (ap (λ (x : Covered). x.covers) kept.rest)) less
