-- A certificate whose bank has grown stands for the same, and is whole. Crates above cite these.
use Rattle.std.proofs.Common.{◌≡◌, ap, ◌∙◌}
use Rattle.cert_values.specs.declared.certificate.Base.{Base}
use Rattle.cert_values.specs.declared.certificate.FirstRefutation.{FirstRefutation}
use Rattle.cert_values.specs.declared.certificate.Refutation.{Refutation}
use Rattle.cert_values.specs.declared.certificate.Saturation.{Saturation}
use Rattle.cert_values.specs.declared.certificate.Covered.{Covered}
use Rattle.cert_values.specs.Values.{base_of, first_of, refutation_of, saturation_of, covered_of}
use Rattle.cert_values.specs.Wholes.{IsWholeBase, IsWholeFirst, IsWholeRefutation, IsWholeSaturation, IsWholeCovered, KeepsBase, KeepsFirst, KeepsRefutation, KeepsSaturation, KeepsCovered}
use Rattle.cert_values.proofs.Grown.{clauses_same, members_same, steps_same, lines_same, bys_same, covers_same, bys_grown, covers_grown, lines_grown, steps_grown}

pub base_same : (old new : Base) → IsWholeBase old → KeepsBase old new → base_of new ≡ base_of old
base_same old new whole kept =
    ap base_of kept.rest
    ∙ (λ i. record {
      inputs = clauses_same old.bank new.bank kept.bank old.inputs whole.inputs i;
      names = old.names;
      axioms = clauses_same old.bank new.bank kept.bank old.axioms whole.axioms i;
      members = members_same old.bank new.bank kept.bank old.members whole.members i;
    })

pub first_same : (old new : FirstRefutation) → IsWholeFirst old → KeepsFirst old new → first_of new ≡ first_of old
first_same old new whole kept =
    ap first_of kept.rest
    ∙ (λ i. record {
      base = base_same old.base new.base whole.base kept.base i;
      bot = old.bot;
      grounds = clauses_same old.base.bank new.base.bank kept.base.bank old.grounds whole.grounds i;
      steps = steps_same old.base.bank new.base.bank kept.base.bank old.steps whole.steps i;
    })

pub refutation_same : (old new : Refutation) → IsWholeRefutation old → KeepsRefutation old new → refutation_of new ≡ refutation_of old
refutation_same old new whole kept =
    ap refutation_of kept.rest
    ∙ (λ i. record {
      base = base_same old.base new.base whole.base kept.base i;
      bot = old.bot;
      grounds = lines_same old.base.bank new.base.bank kept.base.bank old.grounds whole.grounds i;
      steps = steps_same old.base.bank new.base.bank kept.base.bank old.steps whole.steps i;
    })

pub saturation_same : (old new : Saturation) → IsWholeSaturation old → KeepsSaturation old new → saturation_of new ≡ saturation_of old
saturation_same old new whole kept = ap saturation_of kept.rest ∙ (λ i. record { base = base_same old.base new.base whole kept.base i; places = old.places })

pub covered_same : (old new : Covered) → IsWholeCovered old → KeepsCovered old new → covered_of new ≡ covered_of old
covered_same old new whole kept =
    ap covered_of kept.rest
    ∙ (λ i. record {
      saturation = saturation_same old.cert new.cert whole.cert kept.cert i;
      shown = bys_same old.cert.base.bank new.cert.base.bank kept.cert.base.bank old.shown whole.shown i;
      covers = covers_same old.cert.base.bank new.cert.base.bank kept.cert.base.bank old.covers whole.covers i;
    })

-- whole where the base with the grown bank is
pub refutation_whole : (r : Refutation) (b : Base) → IsWholeRefutation r → KeepsBase r.base b → IsWholeBase b → IsWholeRefutation (record r { base = b })
refutation_whole r b h kept whole = record {
  base = whole;
  grounds = lines_grown r.base.bank b.bank kept.bank r.grounds h.grounds;
  steps = steps_grown r.base.bank b.bank kept.bank r.steps h.steps;
}

pub covered_whole : (c : Covered) (s : Saturation) → IsWholeCovered c → KeepsSaturation c.cert s → IsWholeSaturation s → IsWholeCovered (record c { cert = s })
covered_whole c s h kept whole = record {
  cert = whole;
  shown = bys_grown c.cert.base.bank s.base.bank kept.base.bank c.shown h.shown;
  covers = covers_grown c.cert.base.bank s.base.bank kept.base.bank c.covers h.covers;
}
