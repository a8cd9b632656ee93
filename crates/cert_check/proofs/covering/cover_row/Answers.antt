use Rattle.std.proofs.Common.{List, ℕ, suc, sym, subst}
use Rattle.cert_values.specs.Values.{saturation_of}
use Rattle.cert_index.specs.Meetings.{LeadsOn}
use Rattle.cert_check.proofs.covering.cover_row.Goals as goal

pub cover_among-requires-clause-partners : goal.cover_among-requires-clause-partners
cover_among-requires-clause-partners c =
    subst (λ (js : List ℕ). LeadsOn (saturation_of c.args.cert.now.cert) c.args.i (suc c.args.i) js) (sym c.as_slice.ensures.value) c.in_ok-later_partners.ensures
