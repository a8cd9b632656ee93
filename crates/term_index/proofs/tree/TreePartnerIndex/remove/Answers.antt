use Rattle.std.proofs.Common.{◌≡◌, ◌∙◌, ap, sym, subst, List, true}
use Rattle.term_index.specs.Pairs.{Removes}
use Rattle.term_index.specs.declared.node.Edge.{Edge}
use Rattle.term_index.specs.Nodes.{Content}
use Rattle.term_index.specs.State.{State, pairs_of, IsStored}
use Rattle.term_index.proofs.tree.TreePartnerIndex.remove.Goals as goal

pub remove_pair-result-requires-clause-stored : goal.remove_pair-result-requires-clause-stored
remove_pair-result-requires-clause-stored c =
    let e = ap (λ (t : State). t.edges) c.self.view_is in
    let n = ap (λ (t : State). t.nodes) c.self.view_is in
    let p = ap (λ (t : State). t.spent) c.self.view_is in
    subst (λ (xs : List Edge). IsStored c.args.bank.now xs c.self.inside.trie.nodes.items) (sym e)
    (subst (λ (xs : List Content). IsStored c.args.bank.now c.args.self.now.edges xs) (sym n) (c.requires.fits (sym p ∙ c.if-self.false)))

pub returns-clause-there : goal.returns-clause-there
returns-clause-there c =
    let n = ap (λ (t : State). t.nodes) c.self.view_is in
    subst (λ (xs : List Content). Rattle.std.specs.Result.IfOk c.remove_pair-result.result (λ r. r ≡ true → Removes (c.args.atom, c.args.entry) (pairs_of xs) (pairs_of c.remove_pair-result.new.trie.nodes.items))) n c.remove_pair-result.ensures.there
