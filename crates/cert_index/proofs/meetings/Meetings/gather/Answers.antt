use Rattle.std.proofs.Common.{◌≡◌, ◌<◌, ◌∙◌, List, ℕ, ap, length, get_or, sym, subst, take}
use Rattle.std.specs.List.{Contains}
use Rattle.std.proofs.lemmas.List.{get_or_default}
use Rattle.std.proofs.lemmas.List.Elements.{Contains-get_or}
use Rattle.cert_index.specs.Buckets.{number_at}
use Rattle.cert_index.specs.Chains.{AreGathered, list_at}
use Rattle.cert_index.proofs.MeetingLaws.{gathered_all, gathered_more, gathered_none}
use Rattle.cert_index.proofs.meetings.Meetings.gather.Goals as goal

pub loop-number-init : goal.loop-number-init
loop-number-init c =
    let ns = c.args.self.now.links.numbers.items in
    let xs = c.opposites_of-opposite.result.now in
    subst (AreGathered ns (take 0 xs) c.args.from) (sym c.clear.ensures.items) (gathered_none ns xs c.args.from)

pub add_items-requires-clause-known : goal.add_items-requires-clause-known
add_items-requires-clause-known c =
    let m = c.args.self.now in
    let ns = m.links.numbers.items in
    let vs = m.opposites in
    let xs = c.opposites_of-opposite.result.now in
    let b = c.index-bucket.result.now in
    let number : b ≡ number_at ns c.args.i = c.index-bucket.ensures ∙ get_or_default ns c.args.i b 0 c.requires.within in
    let low : b < length vs = subst (λ n. n < length vs) (sym number) (c.requires.grouped.numbered c.args.i c.requires.within) in
    let value : xs ≡ list_at vs b = c.opposites_of-opposite.ensures in
    let q = get_or xs c.loop-number.number-index 0 in
    c.requires.grouped.known b q low (subst (λ (ys : List ℕ). Contains ys q) value (Contains-get_or xs c.loop-number.number-index 0 c.loop-number-test.true))

pub loop-number-preserved : goal.loop-number-preserved
loop-number-preserved c =
    gathered_more c.args.self.now.links.numbers.items c.opposites_of-opposite.result.now c.args.from c.loop-number.number-index c.loop-number.items.items c.add_items.new.items.items c.loop-number-test.true c.loop-number.invariant c.in_ok-add_items.ensures

pub returns : goal.returns
returns c =
    let m = c.args.self.now in
    let ns = m.links.numbers.items in
    let vs = m.opposites in
    let xs = c.opposites_of-opposite.result.now in
    let b = c.index-bucket.result.now in
    let js = c.loop-number.items.items in
    let number : b ≡ number_at ns c.args.i = c.index-bucket.ensures ∙ get_or_default ns c.args.i b 0 c.requires.within in
    let low : b < length vs = subst (λ n. n < length vs) (sym number) (c.requires.grouped.numbered c.args.i c.requires.within) in
    let value : xs ≡ list_at vs b = c.opposites_of-opposite.ensures in
    subst (λ (ys : List ℕ). AreGathered ns ys c.args.from js) (value ∙ ap (list_at vs) number) (gathered_all ns xs c.args.from c.loop-number.number-index js c.loop-number-test.false c.loop-number.invariant)
