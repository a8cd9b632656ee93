use Rattle.std.proofs.Common.{◌∙◌, List, length, ap, sym, subst}
use Rattle.std.proofs.lemmas.List.{length-map}
use Rattle.std.proofs.lemmas.Result.{IfOk-weaker}
use Rattle.cert_index.specs.declared.fingerprint.Fingerprint.{Fingerprint}
use Rattle.cert_index.specs.Chains.{AreOpposites, TellsApart}
use Rattle.cert_index.specs.Fingerprints.{top_marks}
use Rattle.cert_index.specs.Partners.{Head}
use Rattle.cert_index.proofs.BucketLaws.{known_buckets}
use Rattle.cert_index.proofs.MeetingLaws.{told_by_tops}
use Rattle.cert_index.proofs.meetings.meetings_of_tops.Goals as goal

pub find_buckets-requires : goal.find_buckets-requires
find_buckets-requires c =
    ap (λ (ps : List Fingerprint). length ps) (c.deref.ensures.value ∙ c.in_ok-tops.ensures) ∙ length-map c.args.fingerprints.now top_marks ∙ c.requires

pub opposites_by_classes-requires : goal.opposites_by_classes-requires
opposites_by_classes-requires c =
    ap (λ (ps : List Fingerprint). length ps) c.deref-3.ensures.value ∙ c.in_ok-buckets.ensures.marked ∙ sym (ap (λ (hs : List Head). length hs) c.deref-2.ensures.value)

pub meetings_by-requires : goal.meetings_by-requires
meetings_by-requires c = known_buckets c.args.heads.now c.deref.result.now c.in_ok-buckets.buckets c.in_ok-buckets.ensures

pub returns : goal.returns
returns c =
    let hs = c.args.heads.now in
    let b = c.in_ok-buckets.buckets in
    let vs = c.in_ok-opposites.opposites in
    let os : AreOpposites b.heads.items b.fingerprints.items (length b.heads.items) vs =
    subst (λ (xs : List Head). AreOpposites xs b.fingerprints.items (length xs) vs) c.deref-2.ensures.value
    (subst (λ (xs : List Fingerprint). AreOpposites c.deref-2.result.now xs (length c.deref-2.result.now) vs) c.deref-3.ensures.value c.in_ok-opposites.ensures) in
    IfOk-weaker c.meetings_by.result _ _
    (λ m h. told_by_tops hs c.args.fingerprints.now m c.requires (subst (λ (xs : List Fingerprint). TellsApart hs xs m) (c.deref.ensures.value ∙ c.in_ok-tops.ensures) h))
    (c.meetings_by.ensures hs c.deref.result.now c.in_ok-buckets.ensures os)
