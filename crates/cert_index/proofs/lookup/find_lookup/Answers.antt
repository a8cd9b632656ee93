use Rattle.std.proofs.Common.{◌≡◌, ◌∙◌, List, length, subst, ap, sym, arith}
use Rattle.std.proofs.lemmas.List.{length-map}
use Rattle.std.specs.Cmp.Lexicographic.{pointwise}
use Rattle.indexmap.specs.IndexMap.{get}
use Rattle.clause_form.specs.Literals.{id_eq}
use Rattle.cert_values.specs.declared.member.Member.{Member}
use Rattle.cert_values.specs.Values.{entry_of, saturation_of}
use Rattle.cert_index.specs.declared.fingerprint.Fingerprint.{Fingerprint}
use Rattle.cert_index.specs.Fingerprints.{TellApart, fingerprint_at}
use Rattle.cert_index.specs.Lengths.{AreGrouped}
use Rattle.cert_index.specs.Lookups.{AreClausesOf}
use Rattle.cert_index.specs.Partners.{AreApart, Head, head_at}
use Rattle.cert_index.proofs.LookupLaws.{member_marked}
use Rattle.cert_index.proofs.lookup.find_lookup.Goals as goal

pub find_lengths-requires : goal.find_lengths-requires
find_lengths-requires c =
    ap (λ (xs : List Head). length xs) c.deref-3.ensures.value ∙ c.in_ok-heads.ensures.count ∙ sym (ap (λ (ms : List Member). length ms) c.as_slice-members.ensures)

pub find_meetings-requires : goal.find_meetings-requires
find_meetings-requires c =
    ap (λ (ps : List Fingerprint). length ps) c.deref-2.ensures.value ∙ c.in_ok-fingerprints.ensures.count ∙ sym (ap (λ (xs : List Head). length xs) c.deref.ensures.value ∙ c.in_ok-heads.ensures.count)

pub returns : goal.returns
returns c =
    let cert = c.args.cert.now in
    let hs = c.in_ok-heads.heads.items in
    let ps = c.in_ok-fingerprints.fingerprints.items in
    let count : length ps ≡ length cert.base.members = c.in_ok-fingerprints.ensures.count in
    let places : length hs ≡ length cert.base.members = c.in_ok-heads.ensures.count in
    let same : c.deref.result.now ≡ hs = c.deref.ensures.value in
    record {
      whole = c.requires.whole;
      base = c.requires.base;
      placed = c.requires.placed;
      lookup = record {
        clauses = subst (λ (ms : List Member). AreClausesOf ms (get (pointwise id_eq) c.in_ok-clauses.clauses)) c.as_slice-members.ensures c.in_ok-clauses.ensures;
        count = count;
        heads = hs;
        marked = λ k m within. member_marked cert k (head_at hs k) (fingerprint_at ps k) (c.in_ok-heads.ensures.heads k (omega (arith, places, within))) (c.in_ok-fingerprints.ensures.each k (omega (arith, count, within))) m within;
        groups = subst (λ (ms : List Member). AreGrouped ms hs c.in_ok-lengths.lengths) c.as_slice-members.ensures
            (subst (λ (xs : List Head). AreGrouped c.as_slice-members.result.now xs c.in_ok-lengths.lengths) c.deref-3.ensures.value c.in_ok-lengths.ensures);
      };
      meetings = c.in_ok-meetings.ensures (saturation_of cert) (ap (λ (xs : List Head). length xs) same ∙ places ∙ sym (length-map cert.base.members (entry_of cert.base.bank)))
          (subst (AreApart (saturation_of cert)) (sym same) c.in_ok-heads.ensures.apart) (subst (TellApart (saturation_of cert)) (sym c.deref-2.ensures.value) c.in_ok-fingerprints.ensures.apart);
    }
