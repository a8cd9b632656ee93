use Rattle.std.proofs.Common.{◌≡◌, ◌≤◌, ◌∙◌, ap, sym, subst, length, List}
use Rattle.std.proofs.lemmas.List.{length-map}
use Rattle.cert_values.specs.declared.certificate.Cover.{Cover}
use Rattle.cert_values.specs.declared.certificate.Covered.{Covered}
use Rattle.cert_values.specs.Values.{cover_of, covered_of}
use Rattle.cert_check.proofs.Bases.{none_wrong, some_wrong}
use Rattle.cert_check.proofs.CoveredStages.{all_right, cover_first, pair_first}
use Rattle.cert_index.proofs.PlaceLaws.{no_place}
use Rattle.cert_check.proofs.Saturations.{none_pair, some_pair}
use Rattle.cert_check.proofs.covered.compare_covers.Goals as goal

pub returns-in-Some-clause-complaint : goal.returns-in-Some-clause-complaint
returns-in-Some-clause-complaint c =
    let cert = c.args.cert.now in
    pair_first (covered_of cert) c.requires.comparable.base c.requires.comparable.placed c.requires.shown c.in-Some.left c.in-Some.right (some_pair _ c.in_ok-left.field-0 c.in-Some.left c.in-Some.right c.in_ok-left.ensures.first c.in-Some.is)

pub wrong_cover-requires : goal.wrong_cover-requires
wrong_cover-requires c = subst (λ (vs : List Cover). c.compare_pairs.new.progress.count ≤ length vs) (sym c.as_slice.ensures) c.compare_pairs.ensures.counted

pub returns-in-Some-wrong_cover-clause-complaint : goal.returns-in-Some-wrong_cover-clause-complaint
returns-in-Some-wrong_cover-clause-complaint c =
    let cert = c.args.cert.now in
    let pairs = none_pair _ c.in_ok-left.field-0 c.in_ok-left.ensures.first c.in_default.not-Some in
    let (ds, due, compared) = c.in_ok-left.ensures.compared (no_place c.in_ok-left.field-0 c.in_default.not-Some) in
    let count : length (covered_of cert).covers ≡ length c.as_slice.result.now =
    length-map cert.covers (cover_of cert.cert.base.bank) ∙ ap (λ (x : Covered). length x.covers) (sym c.compare_pairs.ensures.kept.rest) ∙ ap (λ (vs : List Cover). length vs) (sym c.as_slice.ensures) in
    cover_first (covered_of cert) c.requires.comparable.base c.requires.comparable.placed c.requires.shown pairs c.in-Some-wrong_cover.n (some_wrong _ c.wrong_cover.result c.in-Some-wrong_cover.n (c.wrong_cover.ensures (covered_of cert) count ds due compared) c.in-Some-wrong_cover.is)

pub returns-clause-named : goal.returns-clause-named
returns-clause-named c =
    let cert = c.args.cert.now in
    let pairs = none_pair _ c.in_ok-left.field-0 c.in_ok-left.ensures.first c.in_default.not-Some in
    let (ds, due, compared) = c.in_ok-left.ensures.compared (no_place c.in_ok-left.field-0 c.in_default.not-Some) in
    let count : length (covered_of cert).covers ≡ length c.as_slice.result.now =
    length-map cert.covers (cover_of cert.cert.base.bank) ∙ ap (λ (x : Covered). length x.covers) (sym c.compare_pairs.ensures.kept.rest) ∙ ap (λ (vs : List Cover). length vs) (sym c.as_slice.ensures) in
    all_right (covered_of cert) c.requires.comparable.base c.requires.comparable.placed c.requires.shown pairs (none_wrong _ c.wrong_cover.result (c.wrong_cover.ensures (covered_of cert) count ds due compared) c.in_default-wrong_cover.not-Some)
