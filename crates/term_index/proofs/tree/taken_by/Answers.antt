use Rattle.std.proofs.Common.{◌∙◌, ◌<◌, length, refl, sym, subst, arith}
use Rattle.std.proofs.lemmas.Bool.Decides.{nat_tests}
use Rattle.term_bank.specs.Forest.{tree_at}
use Rattle.term_index.specs.Labels.{labels}
use Rattle.term_index.specs.Lists.{AreWithin}
use Rattle.term_index.specs.Pairs.{Removes}
use Rattle.term_index.specs.State.{pairs_of, IsStored}
use Rattle.term_index.proofs.DescentLaws.{way_within}
use Rattle.term_index.proofs.PathLaws.{leads_in}
use Rattle.term_index.proofs.PairLaws.{found_kept}
use Rattle.term_index.proofs.StoreLaws.{changed, absent_nowhere, taken_trie, taken_stored, taken_removes, taken_absent, stored_kept, pairs_kept}
use Rattle.term_index.proofs.tree.taken_by.Goals as goal

pub returns-in-None-clause-absent : goal.returns-in-None-clause-absent
returns-in-None-clause-absent c = λ _. (absent_nowhere c.args.bank.now c.args.trie.now.edges.keys c.args.trie.now.nodes.items c.requires.stored c.args.pair (rw c.in-None.is at c.in_ok-leaf.ensures.way), refl)

pub take_pair-requires-clause-within : goal.take_pair-requires-clause-within
take_pair-requires-clause-within c =
    let some : 0 < length c.args.trie.now.nodes.items = grind (arith, nat_tests, c.args.trie.now.nodes.ok.0) in
    let way = rw c.in-Some.is at c.in_ok-leaf.ensures.way in
    let w = leads_in c.args.trie.now.edges.keys 0 (labels c.args.bank.now (tree_at c.args.bank.now c.args.pair.0)) c.in-Some.node (omega arith) way.leads in
    omega (arith, w, c.requires.trie.count some)

pub prune-requires-clause-trie : goal.prune-requires-clause-trie
prune-requires-clause-trie c =
    taken_trie c.in-Some.node c.args.trie.now.nodes.items c.take_pair.new.nodes.items (changed c.take_pair.ensures.len c.take_pair.ensures.others c.take_pair.ensures.exits) c.args.pair c.in_ok-there-in-Some.there c.in_ok-there-in-Some.ensures.there c.in_ok-there-in-Some.ensures.absent c.args.trie.now.edges.keys c.args.trie.now.places c.requires.trie c.in_ok-there-in-Some.ensures.once

pub prune-requires-clause-within : goal.prune-requires-clause-within
prune-requires-clause-within c =
    let some : 0 < length c.args.trie.now.nodes.items = grind (arith, nat_tests, c.args.trie.now.nodes.ok.0) in
    let way = rw c.in-Some.is at c.in_ok-leaf.ensures.way in
    let w = leads_in c.args.trie.now.edges.keys 0 (labels c.args.bank.now (tree_at c.args.bank.now c.args.pair.0)) c.in-Some.node (omega arith) way.leads in
    subst (AreWithin (length c.take_pair.new.nodes.items)) (sym c.as_slice.ensures.value)
    (way_within c.args.bank.now c.args.trie.now.edges.keys c.requires.trie.order c.args.pair.0 c.in-Some.node (length c.take_pair.new.nodes.items) c.leaf.new.descent.closed.items
    (omega (arith, w, c.requires.trie.count some, c.take_pair.ensures.len)) way)

pub returns-in_ok-there-in-Some-clause-stored : goal.returns-in_ok-there-in-Some-clause-stored
returns-in_ok-there-in-Some-clause-stored c =
    stored_kept c.args.bank.now c.args.trie.now.edges.keys c.args.trie.now.edges.keys c.take_pair.new.nodes.items c.prune.new.nodes.items (λ n l m k. k) c.prune.ensures.pairs
    (taken_stored c.in-Some.node c.args.trie.now.nodes.items c.take_pair.new.nodes.items (changed c.take_pair.ensures.len c.take_pair.ensures.others c.take_pair.ensures.exits) c.args.pair c.in_ok-there-in-Some.there c.in_ok-there-in-Some.ensures.there c.in_ok-there-in-Some.ensures.absent c.args.bank.now c.args.trie.now.edges.keys c.requires.stored)

pub returns-in_ok-there-in-Some-clause-there : goal.returns-in_ok-there-in-Some-clause-there
returns-in_ok-there-in-Some-clause-there c = λ t.
    subst (Removes c.args.pair (pairs_of c.args.trie.now.nodes.items)) (sym (pairs_kept c.take_pair.new.nodes.items c.prune.new.nodes.items c.prune.ensures.pairs))
    (taken_removes c.in-Some.node c.args.trie.now.nodes.items c.take_pair.new.nodes.items (changed c.take_pair.ensures.len c.take_pair.ensures.others c.take_pair.ensures.exits) c.args.pair c.in_ok-there-in-Some.there c.in_ok-there-in-Some.ensures.there c.in_ok-there-in-Some.ensures.absent c.args.trie.now.edges.keys c.args.trie.now.places c.requires.trie t)

pub returns-in_ok-there-in-Some-clause-absent : goal.returns-in_ok-there-in-Some-clause-absent
returns-in_ok-there-in-Some-clause-absent c = λ t.
    (let way = rw c.in-Some.is at c.in_ok-leaf.ensures.way in
    let r = taken_absent c.in-Some.node c.args.trie.now.nodes.items c.take_pair.new.nodes.items (changed c.take_pair.ensures.len c.take_pair.ensures.others c.take_pair.ensures.exits) c.args.pair c.in_ok-there-in-Some.there c.in_ok-there-in-Some.ensures.there c.in_ok-there-in-Some.ensures.absent c.args.bank.now c.args.trie.now.edges.keys c.requires.trie.once c.requires.stored way.leads t in
    (r.0, pairs_kept c.take_pair.new.nodes.items c.prune.new.nodes.items c.prune.ensures.pairs ∙ r.1))

pub returns-in_err-there-in-Some-clause-stored : goal.returns-in_err-there-in-Some-clause-stored
returns-in_err-there-in-Some-clause-stored c = subst (IsStored c.args.bank.now c.args.trie.now.edges.keys) (sym c.in_err-there-in-Some.ensures.held) c.requires.stored

pub returns-in_ok-there-in-Some-clause-found : goal.returns-in_ok-there-in-Some-clause-found
returns-in_ok-there-in-Some-clause-found c = found_kept c.take_pair.new.found.entries c.take_pair.new.nodes.items c.prune.new.nodes.items c.prune.ensures.pairs c.in_ok-there-in-Some.ensures.found
