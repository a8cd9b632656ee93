use Rattle.std.proofs.Common.{◌≡◌, length, arith}
use Rattle.cert_index.proofs.MeetingLaws.{told_by_buckets}
use Rattle.cert_index.proofs.meetings.meetings_by.Goals as goal

pub find_links-requires : goal.find_links-requires
find_links-requires c i less = let k = c.requires.known i less in omega (arith, k, c.len-count.ensures, c.args.buckets.heads.ok.0)

pub returns : goal.returns
returns c hs ps inside os =
    let count : length c.in_ok-links.links.first.items ≡ length c.args.buckets.heads.items = omega (arith, c.in_ok-links.ensures.count, c.len-count.ensures, c.args.buckets.heads.ok.0) in
    told_by_buckets hs ps c.args.buckets (record { links = c.in_ok-links.links; opposites = c.args.opposites }) inside c.in_ok-links.ensures.numbers count c.in_ok-links.ensures.linked os
