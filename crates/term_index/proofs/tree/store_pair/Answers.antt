use Rattle.std.proofs.Common.{ℕ, subst}
use Rattle.std.specs.Result.{OnOk}
use Rattle.term_index.specs.Pairs.{Adds}
use Rattle.term_index.specs.State.{pairs_of}
use Rattle.term_index.proofs.tree.store_pair.Goals as goal

pub returns-clause-added : goal.returns-clause-added
returns-clause-added c =
    subst (λ (n : ℕ). OnOk c.stored_by.result (Adds (c.args.pair.0, n) (pairs_of c.args.trie.now.nodes.items) (pairs_of c.stored_by.new.trie.nodes.items))) c.in_ok-number.ensures.same c.stored_by.ensures.added

pub stored_by-requires-clause-absent : goal.stored_by-requires-clause-absent
stored_by-requires-clause-absent c = λ h. c.requires.absent (subst (λ (n : ℕ). Rattle.std.specs.Prelude.Contains (pairs_of c.args.trie.now.nodes.items) (c.args.pair.0, n)) c.in_ok-number.ensures.same h)
