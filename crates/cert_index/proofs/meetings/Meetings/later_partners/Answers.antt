use Rattle.std.proofs.Common.{◌+◌, ◌<◌, ◌≤◌, suc, length, sym, subst, arith}
use Rattle.std.proofs.lemmas.List.{length-map}
use Rattle.std.proofs.lemmas.List.Filters.{dedup_is, All-dedup}
use Rattle.std.proofs.lemmas.List.Kept.{AllPairs-from_increasing, Contains-dedup_nat}
use Rattle.std.proofs.lemmas.List.Sorted.{Contains-permutation, All-permutation}
use Rattle.std.proofs.lemmas.Map.Keys.{IsStrictlyIncreasing-dedup}
use Rattle.cert_values.specs.Values.{entry_of, saturation_of}
use Rattle.cert_index.specs.Meetings.{LeadsOn}
use Rattle.cert_index.proofs.MeetingLaws.{all_within, leads_meeting}
use Rattle.cert_index.proofs.meetings.Meetings.later_partners.Goals as goal

pub gather-requires-clause-grouped : goal.gather-requires-clause-grouped
gather-requires-clause-grouped c = c.requires.meetings.grouped

pub gather-requires-clause-within : goal.gather-requires-clause-within
gather-requires-clause-within c = let cert = c.args.cert.now in omega (arith, c.requires.within, c.requires.meetings.count, length-map cert.base.members (entry_of cert.base.bank))

pub returns : goal.returns
returns c =
    let cert = saturation_of c.args.cert.now in
    let m = c.args.self.now in
    let i = c.args.i in
    let js = c.gather.new.items.items in
    let is = dedup_is _ _ _ c.dedup.ensures.filtered in
    subst (LeadsOn cert i (suc i)) (sym is)
    (leads_meeting cert i m c.requires.meetings js _ c.in_ok-gather.ensures (AllPairs-from_increasing _ (IsStrictlyIncreasing-dedup _ c.sort_unstable.ensures.sorted))
    (λ k h. Contains-dedup_nat _ k (Contains-permutation _ _ k c.sort_unstable.ensures.permutation h))
    (All-dedup _ (λ k. (i + 1 ≤ k) × (k < length m.links.numbers.items)) _ (All-permutation (λ k. (i + 1 ≤ k) × (k < length m.links.numbers.items)) _ _ c.sort_unstable.ensures.permutation (all_within cert i m js c.in_ok-gather.ensures))))
