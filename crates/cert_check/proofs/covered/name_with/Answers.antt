use Rattle.std.proofs.Common.{◌∙◌, ℕ, ap, sym, subst}
use Rattle.cert_format.specs.Certificate as format
use Rattle.cert_format.specs.Dues.{AreDue}
use Rattle.cert_format.specs.Validity.{IsRightPair}
use Rattle.cert_values.specs.declared.certificate.Covered.{Covered}
use Rattle.cert_values.specs.Values.{saturation_of}
use Rattle.cert_check.specs.FirstPairs.{IsFirstWrongPair}
use Rattle.cert_check.proofs.Bases.{none_wrong, some_wrong}
use Rattle.cert_check.proofs.ReadyLaws.{ready_kept}
use Rattle.cert_index.proofs.PlaceLaws.{no_place}
use Rattle.cert_check.proofs.NamedStages.{named_by, shown_stays}
use Rattle.cert_check.proofs.PairScans.{placed_kept, valid_kept}
use Rattle.cert_check.proofs.Saturations.{input_first, keeps_saturation_trans, none_pair, pair_first, saturation_same, some_pair}
use Rattle.cert_check.proofs.covered.name_with.Goals as goal

pub returns-in-Some-clause-complaint : goal.returns-in-Some-clause-complaint
returns-in-Some-clause-complaint c =
    input_first (saturation_of c.args.cert.now.cert) c.requires.ready.base c.requires.ready.placed c.in-Some.k (some_wrong _ c.in_ok-k.field-0 c.in-Some.k c.in_ok-k.ensures.first c.in-Some.is)

pub cover_pairs-requires-clause-ready : goal.cover_pairs-requires-clause-ready
cover_pairs-requires-clause-ready c = ready_kept c.args.cert.now.cert c.show_inputs.new.cert.cert c.args.lookup.now c.requires.ready c.show_inputs.ensures.kept.cert c.in_ok-k.ensures.whole.cert

pub cover_pairs-requires-clause-none : goal.cover_pairs-requires-clause-none
cover_pairs-requires-clause-none c = ap (λ (x : Covered). x.covers) c.show_inputs.ensures.kept.rest ∙ c.requires.none.1

pub returns-in-Some-2-clause-kept : goal.returns-in-Some-2-clause-kept
returns-in-Some-2-clause-kept c = keeps_saturation_trans c.args.cert.now.cert c.show_inputs.new.cert.cert c.cover_pairs.new.cert.cert c.show_inputs.ensures.kept.cert c.cover_pairs.ensures.kept.cert

pub returns-in-Some-2-clause-complaint : goal.returns-in-Some-2-clause-complaint
returns-in-Some-2-clause-complaint c =
    let inputs = none_wrong _ c.in_ok-k.field-0 c.in_ok-k.ensures.first c.in_default.not-Some in
    let same = saturation_same c.args.cert.now.cert c.show_inputs.new.cert.cert c.requires.whole.cert c.show_inputs.ensures.kept.cert in
    pair_first (saturation_of c.args.cert.now.cert) c.requires.ready.base c.requires.ready.placed inputs c.in-Some-2.left c.in-Some-2.right
    (subst (λ (x : format.Saturation). IsFirstWrongPair (IsRightPair x) c.in-Some-2.left c.in-Some-2.right) same (some_pair _ c.in_ok-left.field-0 c.in-Some-2.left c.in-Some-2.right c.in_ok-left.ensures.first c.in-Some-2.is))

pub returns-in_err-left-clause-kept : goal.returns-in_err-left-clause-kept
returns-in_err-left-clause-kept c = keeps_saturation_trans c.args.cert.now.cert c.show_inputs.new.cert.cert c.cover_pairs.new.cert.cert c.show_inputs.ensures.kept.cert c.cover_pairs.ensures.kept.cert

pub returns-clause-kept : goal.returns-clause-kept
returns-clause-kept c = keeps_saturation_trans c.args.cert.now.cert c.show_inputs.new.cert.cert c.cover_pairs.new.cert.cert c.show_inputs.ensures.kept.cert c.cover_pairs.ensures.kept.cert

pub returns-clause-named : goal.returns-clause-named
returns-clause-named c =
    let old = c.args.cert.now in
    let mid = c.show_inputs.new.cert in
    let new = c.cover_pairs.new.cert in
    let kept = keeps_saturation_trans old.cert mid.cert new.cert c.show_inputs.ensures.kept.cert c.cover_pairs.ensures.kept.cert in
    let later = saturation_same mid.cert new.cert c.in_ok-k.ensures.whole.cert c.cover_pairs.ensures.kept.cert in
    let shown = c.in_ok-k.ensures.shown (no_place c.in_ok-k.field-0 c.in_default.not-Some) in
    let pairs = none_pair _ c.in_ok-left.field-0 c.in_ok-left.ensures.first c.in_default-2.not-Some in
    let (ds, due, named) = c.in_ok-left.ensures.named (no_place c.in_ok-left.field-0 c.in_default-2.not-Some) in
    named_by new (valid_kept old.cert new.cert c.requires.whole.cert kept c.requires.ready.base) (placed_kept old.cert new.cert c.requires.whole.cert kept c.requires.ready.placed)
    (λ k. shown_stays mid new c.in_ok-k.ensures.whole c.cover_pairs.ensures.kept k (shown k))
    (subst (λ (x : format.Saturation). (l r : ℕ) → IsRightPair x l r) (sym later) pairs) ds (subst (λ (x : format.Saturation). AreDue x ds) (sym later) due) named
