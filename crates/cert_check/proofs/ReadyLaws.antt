-- Look-ups stay ready while the bank grows.
use Rattle.std.proofs.Common.{sym, subst}
use Rattle.cert_format.specs.Certificate as format
use Rattle.cert_values.specs.declared.certificate.Saturation.{Saturation}
use Rattle.cert_values.specs.Wholes.{IsWholeSaturation, KeepsSaturation}
use Rattle.cert_index.specs.Chains.{AreMeetings}
use Rattle.cert_index.specs.declared.lookup.Lookup.{Lookup}
use Rattle.cert_index.specs.Lookups.{IsReady}
use Rattle.cert_index.proofs.LookupLaws.{lookup_kept}
use Rattle.cert_check.proofs.PairScans.{placed_kept, valid_kept}
use Rattle.cert_check.proofs.Saturations.{saturation_same}

pub ready_kept : (old new : Saturation) (l : Lookup) → IsReady old l → KeepsSaturation old new → IsWholeSaturation new → IsReady new l
ready_kept old new l h kept whole =
    let same = saturation_same old new h.whole kept in
    record {
      whole = whole;
      base = valid_kept old new h.whole kept h.base;
      placed = placed_kept old new h.whole kept h.placed;
      lookup = lookup_kept old new h.whole kept l h.lookup;
      meetings = subst (λ (x : format.Saturation). AreMeetings x l.meetings) (sym same) h.meetings;
    }
