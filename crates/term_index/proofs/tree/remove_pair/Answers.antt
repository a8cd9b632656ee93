use Rattle.std.proofs.Common.{◌≡◌, ℕ, subst, true, refl}
use Rattle.std.specs.Result.{IfOk}
use Rattle.term_index.specs.Pairs.{Removes}
use Rattle.term_index.specs.State.{pairs_of}
use Rattle.term_index.proofs.PairLaws.{too_large}
use Rattle.term_index.proofs.tree.remove_pair.Goals as goal

pub returns-in-Err-clause-absent : goal.returns-in-Err-clause-absent
returns-in-Err-clause-absent c = λ _. (too_large c.args.found.now.entries c.args.trie.now.nodes.items c.args.pair c.requires.found c.in-Err.ensures.large, refl)

pub returns-in_ok-begin-in-Ok-clause-there : goal.returns-in_ok-begin-in-Ok-clause-there
returns-in_ok-begin-in-Ok-clause-there c =
    subst (λ (n : ℕ). IfOk c.taken_by.result (λ r. r ≡ true → Removes (c.args.pair.0, n) (pairs_of c.args.trie.now.nodes.items) (pairs_of c.taken_by.new.trie.nodes.items))) c.in-Ok.ensures.same c.taken_by.ensures.there
