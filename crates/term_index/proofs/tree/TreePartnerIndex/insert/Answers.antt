use Rattle.std.proofs.Common.{◌∙◌, ap, sym, subst, List}
use Rattle.term_index.specs.Pairs.{Adds}
use Rattle.term_index.specs.declared.node.Edge.{Edge}
use Rattle.term_index.specs.Nodes.{Content}
use Rattle.term_index.specs.State.{State, pairs_of, IsStored}
use Rattle.term_index.proofs.StoreLaws.{on_ok_at}
use Rattle.term_index.proofs.tree.TreePartnerIndex.insert.Goals as goal

pub store_pair-result-requires-clause-stored : goal.store_pair-result-requires-clause-stored
store_pair-result-requires-clause-stored c =
    let e = ap (λ (t : State). t.edges) c.self.view_is in
    let n = ap (λ (t : State). t.nodes) c.self.view_is in
    let p = ap (λ (t : State). t.spent) c.self.view_is in
    subst (λ (xs : List Edge). IsStored c.args.bank.now xs c.self.inside.trie.nodes.items) (sym e)
    (subst (λ (xs : List Content). IsStored c.args.bank.now c.args.self.now.edges xs) (sym n) (c.requires.fits (sym p ∙ c.if-self.false)))

pub returns-clause-added : goal.returns-clause-added
returns-clause-added c =
    let n = ap (λ (t : State). t.nodes) c.self.view_is in
    subst (λ (xs : List Content). Rattle.std.specs.Result.OnOk c.store_pair-result.result (Adds (c.args.atom, c.args.entry) (pairs_of xs) (pairs_of c.store_pair-result.new.trie.nodes.items))) n c.store_pair-result.ensures.added

pub returns-clause-fits : goal.returns-clause-fits
returns-clause-fits c =
    λ e. on_ok_at (IsStored c.args.bank.now c.store_pair-result.new.trie.edges.keys c.store_pair-result.new.trie.nodes.items) c.store_pair-result.result (sym c.is_err-self-inside.ensures.value ∙ e) c.store_pair-result.ensures.stored
