use Rattle.std.proofs.Common.{◌∙◌, List, length, ap, sym, subst}
use Rattle.std.proofs.lemmas.List.{length-map}
use Rattle.cert_values.specs.Values.{entry_of, saturation_of}
use Rattle.cert_index.specs.declared.fingerprint.Fingerprint.{Fingerprint}
use Rattle.cert_index.specs.Fingerprints.{TellApart}
use Rattle.cert_index.specs.Partners.{AreApart, Head}
use Rattle.cert_index.proofs.meetings.meetings_of.Goals as goal

pub find_meetings-requires : goal.find_meetings-requires
find_meetings-requires c =
    ap (λ (ps : List Fingerprint). length ps) c.deref-2.ensures.value ∙ c.in_ok-fingerprints.ensures.count ∙ sym (ap (λ (xs : List Head). length xs) c.deref.ensures.value ∙ c.in_ok-heads.ensures.count)

pub returns : goal.returns
returns c =
    let cert = c.args.cert.now in
    let same = c.deref.ensures.value in
    c.find_meetings.ensures (saturation_of cert) (ap (λ (xs : List Head). length xs) same ∙ c.in_ok-heads.ensures.count ∙ sym (length-map cert.base.members (entry_of cert.base.bank)))
    (subst (AreApart (saturation_of cert)) (sym same) c.in_ok-heads.ensures.apart) (subst (TellApart (saturation_of cert)) (sym c.deref-2.ensures.value) c.in_ok-fingerprints.ensures.apart)
