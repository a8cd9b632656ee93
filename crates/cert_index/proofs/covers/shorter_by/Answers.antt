use Rattle.std.proofs.Common.{◌≡◌, ◌<◌, ◌-◌, ◌∙◌, length, get_or, sym, subst, arith, true, false}
use Rattle.std.specs.Prelude.{unwrap_or}
use Rattle.std.proofs.lemmas.List.{get_or_default}
use Rattle.indexmap.specs.IndexMap.{get}
use Rattle.clause_form.specs.Literals.{id_eq}
use Rattle.cert_index.specs.declared.lengths.Ranked.{Ranked}
use Rattle.cert_index.specs.Lengths.{IsBelow, IsRankOf, heads_by, no_rank, rank_at}
use Rattle.cert_index.specs.Lookups.{IsNoShorter, IsPastShorter}
use Rattle.cert_index.specs.Partners.{IsNext}
use Rattle.cert_index.proofs.ShorterLaws.{past_none, past_more, none_left}
use Rattle.cert_index.proofs.covers.shorter_by.Goals as goal

pub returns-then-not-is_below-clause-none : goal.returns-then-not-is_below-clause-none
returns-then-not-is_below-clause-none c hs groups =
    let ls = c.args.sought.now.lookup.now.lengths in
    none_left c.args.sought.now.bank.now c.args.sought.now.members.now hs c.args.sought.now.lookup.now.fingerprints.items ls groups c.args.sought.now.len c.args.sought.now.clause.now c.args.literal.now c.first_place-j.result
    (λ h head.
    let same : c.first_place-j.result ≡ unwrap_or (get id_eq ls.first h) (length ls.ranked.items) = c.first_place-j.ensures h head in
    past_none c.args.sought.now.bank.now c.args.sought.now.members.now hs c.args.sought.now.lookup.now.fingerprints.items ls groups c.args.sought.now.len c.args.sought.now.clause.now c.args.literal.now h c.first_place-j.result
    (subst (IsNext (heads_by hs ls.ranked.items) h 0) (sym same) (groups.to_first h)))
    (λ below. let t : false ≡ true = sym c.if-not-is_below.true ∙ c.is_below.ensures.1 below in cc)

pub loop-lengths-init : goal.loop-lengths-init
loop-lengths-init c hs groups h head =
    let ls = c.args.sought.now.lookup.now.lengths in
    let same : c.first_place-j.result ≡ unwrap_or (get id_eq ls.first h) (length ls.ranked.items) = c.first_place-j.ensures h head in
    past_none c.args.sought.now.bank.now c.args.sought.now.members.now hs c.args.sought.now.lookup.now.fingerprints.items ls groups c.args.sought.now.len c.args.sought.now.clause.now c.args.literal.now h c.first_place-j.result
    (subst (IsNext (heads_by hs ls.ranked.items) h 0) (sym same) (groups.to_first h))

pub is_shorter_at-requires-clause-within : goal.is_shorter_at-requires-clause-within
is_shorter_at-requires-clause-within c =
    let rs = c.args.sought.now.lookup.now.lengths.ranked.items in
    let j = c.loop-lengths.j in
    let below : IsBelow rs c.args.sought.now.len j = c.is_below-in-loop-lengths.ensures.0 c.loop-lengths-test.true in
    let at : c.index.result.now ≡ rank_at rs j = c.index.ensures ∙ get_or_default rs j c.index.result.now no_rank below.within in
    subst (λ (r : Ranked). r.place < length c.args.sought.now.members.now) (sym at) (c.requires.ready.lookup.groups.ranked.each j no_rank below.within).within

pub is_shorter_at-requires-clause-shorter : goal.is_shorter_at-requires-clause-shorter
is_shorter_at-requires-clause-shorter c d =
    let rs = c.args.sought.now.lookup.now.lengths.ranked.items in
    let j = c.loop-lengths.j in
    let below : IsBelow rs c.args.sought.now.len j = c.is_below-in-loop-lengths.ensures.0 c.loop-lengths-test.true in
    let at : c.index.result.now ≡ rank_at rs j = c.index.ensures ∙ get_or_default rs j c.index.result.now no_rank below.within in
    let rank : IsRankOf c.args.sought.now.members.now c.index.result.now = subst (IsRankOf c.args.sought.now.members.now) (sym at) (c.requires.ready.lookup.groups.ranked.each j no_rank below.within) in
    let less : c.index.result.now.len < c.args.sought.now.len = subst (λ (r : Ranked). r.len < c.args.sought.now.len) (sym at) below.below in
    let same = rank.len d in
    omega (arith, less, same)

pub loop-lengths-preserved : goal.loop-lengths-preserved
loop-lengths-preserved c hs groups h head =
    let f = c.args.sought.now.bank.now in
    let ms = c.args.sought.now.members.now in
    let ls = c.args.sought.now.lookup.now.lengths in
    let rs = ls.ranked.items in
    let ps = c.args.sought.now.lookup.now.fingerprints.items in
    let j = c.loop-lengths.j in
    let below : IsBelow rs c.args.sought.now.len j = c.is_below-in-loop-lengths.ensures.0 c.loop-lengths-test.true in
    let at : c.index.result.now ≡ rank_at rs j = c.index.ensures ∙ get_or_default rs j c.index.result.now no_rank below.within in
    let there : j < length ls.same.items = omega (arith, below.within, groups.same_length) in
    let to : c.index-j.result.now ≡ get_or ls.same.items j 0 = c.index-j.ensures ∙ get_or_default ls.same.items j c.index-j.result.now 0 there in
    let none : IsNoShorter f ms ps c.args.sought.now.len c.args.sought.now.clause.now c.args.literal.now (rank_at rs j).place =
    subst (λ (r : Ranked). IsNoShorter f ms ps c.args.sought.now.len c.args.sought.now.clause.now c.args.literal.now r.place) at
    (c.in_ok-is_shorter_at.ensures.no c.if-branch.false c.args.literal.now c.fingerprint_of-fingerprint.ensures) in
    subst (IsPastShorter f ms hs rs ps c.args.sought.now.len c.args.sought.now.clause.now c.args.literal.now h) (sym to)
    (past_more f ms hs ps ls groups c.args.sought.now.len c.args.sought.now.clause.now c.args.literal.now h j below.within (c.loop-lengths.invariant hs groups h head) none)

pub loop-lengths-smaller : goal.loop-lengths-smaller
loop-lengths-smaller c =
    let ls = c.args.sought.now.lookup.now.lengths in
    let j = c.loop-lengths.j in
    let groups = c.requires.ready.lookup.groups in
    let below : IsBelow ls.ranked.items c.args.sought.now.len j = c.is_below-in-loop-lengths.ensures.0 c.loop-lengths-test.true in
    let there : j < length ls.same.items = omega (arith, below.within, groups.same_length) in
    let to : c.index-j.result.now ≡ get_or ls.same.items j 0 = c.index-j.ensures ∙ get_or_default ls.same.items j c.index-j.result.now 0 there in
    let later = (groups.to_same j below.within).from_there in
    let less : length ls.ranked.items - c.index-j.result.now < length ls.ranked.items - j = omega (arith, below.within, to, later) in less

pub returns-clause-none : goal.returns-clause-none
returns-clause-none c hs groups =
    none_left c.args.sought.now.bank.now c.args.sought.now.members.now hs c.args.sought.now.lookup.now.fingerprints.items c.args.sought.now.lookup.now.lengths groups c.args.sought.now.len c.args.sought.now.clause.now c.args.literal.now c.loop-lengths.j (c.loop-lengths.invariant hs groups)
    (λ below. let t : false ≡ true = sym c.loop-lengths-test.false ∙ c.is_below-in-loop-lengths.ensures.1 below in cc)

pub returns-then-branch-clause-some : goal.returns-then-branch-clause-some
returns-then-branch-clause-some c = c.in_ok-is_shorter_at.ensures.yes c.if-branch.true
