use Rattle.std.proofs.Common.{◌≡◌, ◌<◌, ◌≤◌, ◌∙◌, length, suc, sym, subst, arith}
use Rattle.std.proofs.lemmas.List.{get_or_default}
use Rattle.cert_index.specs.Buckets.{number_at}
use Rattle.cert_index.specs.Links.{IsNextOf}
use Rattle.cert_index.proofs.LinkLaws.{added_all, added_more, added_none}
use Rattle.cert_index.proofs.links.Links.add_items.Goals as goal

pub loop-j-init : goal.loop-j-init
loop-j-init c =
    let l = c.args.self.now in
    let ns = l.numbers.items in
    let j = c.index-j.result.now in
    let first : IsNextOf ns c.args.number 0 (number_at l.first.items c.args.number) = c.requires.linked.linked.to_first c.args.number c.requires.known in
    let same : number_at l.first.items c.args.number ≡ j = sym (c.index-j.ensures ∙ get_or_default l.first.items c.args.number j 0 c.requires.known) in
    let next : IsNextOf ns c.args.number 0 j = subst (IsNextOf ns c.args.number 0) same first in
    record { at = next.at; added = added_none ns c.args.number c.args.from j c.args.items.now.items next }

pub loop-j-preserved : goal.loop-j-preserved
loop-j-preserved c =
    let l = c.args.self.now in
    let ns = l.numbers.items in
    let n = c.args.number in
    let j = c.loop-j.j in
    let to = c.index-j-in-loop-j.result.now in
    let count = c.requires.linked.linked.next_length in
    let there : j < length l.next.items = omega (arith, c.loop-j-test.true) in
    let inside : j < length ns = omega (arith, there, count) in
    let same : number_at l.next.items j ≡ to = sym (c.index-j-in-loop-j.ensures ∙ get_or_default l.next.items j to 0 there) in
    let next : IsNextOf ns n (suc j) to = subst (λ m. IsNextOf ns m (suc j) to) (c.loop-j.invariant.at inside) (subst (IsNextOf ns (number_at ns j) (suc j)) same (c.requires.linked.linked.to_next j (omega arith) inside)) in
    record { at = next.at; added = added_more ns n c.args.from j to c.args.items.now.items c.loop-j.items.items c.add_from.new.items.items inside next c.loop-j.invariant.added c.in_ok-add_from.ensures }

pub loop-j-smaller : goal.loop-j-smaller
loop-j-smaller c =
    let l = c.args.self.now in
    let ns = l.numbers.items in
    let j = c.loop-j.j in
    let to = c.index-j-in-loop-j.result.now in
    let count = c.requires.linked.linked.next_length in
    let there : j < length l.next.items = omega (arith, c.loop-j-test.true) in
    let same : number_at l.next.items j ≡ to = sym (c.index-j-in-loop-j.ensures ∙ get_or_default l.next.items j to 0 there) in
    let low : suc j ≤ number_at l.next.items j = (c.requires.linked.linked.to_next j (omega arith) (omega (arith, there, count))).from_there in
    omega (arith, low, same, there)

pub returns : goal.returns
returns c =
    let l = c.args.self.now in
    added_all l.numbers.items c.args.number c.args.from c.loop-j.j c.args.items.now.items c.loop-j.items.items (omega (arith, c.loop-j-test.false, c.requires.linked.linked.next_length)) c.loop-j.invariant.added
