use Rattle.std.proofs.Common.{◌∙◌, List, length, ap, sym, subst}
use Rattle.cert_index.specs.declared.fingerprint.Fingerprint.{Fingerprint}
use Rattle.cert_index.specs.Chains.{AreOpposites, TellsApart}
use Rattle.cert_index.specs.Partners.{Head}
use Rattle.cert_index.proofs.BucketLaws.{known_buckets}
use Rattle.cert_index.proofs.meetings.meetings_of_all.Goals as goal

pub meetings_of_tops-requires : goal.meetings_of_tops-requires
meetings_of_tops-requires c =
    ap (λ (ps : List Fingerprint). length ps) c.deref-2.ensures.value ∙ c.in_ok-buckets.ensures.marked ∙ sym (ap (λ (hs : List Head). length hs) c.deref.ensures.value)

pub opposites_within-requires-clause-grouped : goal.opposites_within-requires-clause-grouped
opposites_within-requires-clause-grouped c = c.in_ok-tops.ensures.grouped

pub opposites_within-requires-clause-count : goal.opposites_within-requires-clause-count
opposites_within-requires-clause-count c =
    c.in_ok-tops.ensures.count ∙ ap (λ (hs : List Head). length hs) c.deref.ensures.value ∙ sym (ap (λ (ps : List Fingerprint). length ps) c.deref-3.ensures.value ∙ c.in_ok-buckets.ensures.marked)

pub meetings_by-requires : goal.meetings_by-requires
meetings_by-requires c = known_buckets c.args.heads.now c.args.fingerprints.now c.in_ok-buckets.buckets c.in_ok-buckets.ensures

pub returns : goal.returns
returns c =
    let b = c.in_ok-buckets.buckets in
    let m = c.in_ok-tops.tops in
    let vs = c.in_ok-opposites.opposites in
    let tells : TellsApart b.heads.items c.deref-3.result.now m =
    subst (λ (xs : List Head). TellsApart xs c.deref-3.result.now m) c.deref.ensures.value
    (subst (λ (xs : List Fingerprint). TellsApart c.deref.result.now xs m) (c.deref-2.ensures.value ∙ sym c.deref-3.ensures.value) c.in_ok-tops.ensures) in
    let os : AreOpposites b.heads.items b.fingerprints.items (length b.heads.items) vs =
    subst (λ (xs : List Fingerprint). AreOpposites b.heads.items xs (length b.heads.items) vs) c.deref-3.ensures.value (c.in_ok-opposites.ensures b.heads.items tells) in
    c.meetings_by.ensures c.args.heads.now c.args.fingerprints.now c.in_ok-buckets.ensures os
