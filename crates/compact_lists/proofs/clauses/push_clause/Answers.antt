use Rattle.std.proofs.Common.{◌≡◌, ◌++◌, ◌∷◌, [], ◌+◌, length, rules}
use Rattle.compact_lists.proofs.PieceLaws.{ends_after, cuts_after}
use Rattle.compact_lists.proofs.clauses.push_clause.Goals as goal

pub returns-clause-ends : goal.returns-clause-ends
returns-clause-ends c =
    let end : c.in_ok-end.end ≡ length c.args.items.now.items + length c.args.clause.now = search rules in
    let items : c.push_packed.new.items.items ≡ c.args.items.now.items ++ c.args.clause.now = search rules in
    let ends : c.push_reserved.new.self.items ≡ c.args.ends.now.items ++ c.in_ok-end.end ∷ [] = search rules in
    ends_after c.args.items.now.items c.args.clause.now _ c.args.ends.now.items _ c.in_ok-end.end end items ends c.requires

pub returns-clause-ok : goal.returns-clause-ok
returns-clause-ok c =
    let end : c.in_ok-end.end ≡ length c.args.items.now.items + length c.args.clause.now = search rules in
    let items : c.push_packed.new.items.items ≡ c.args.items.now.items ++ c.args.clause.now = search rules in
    let ends : c.push_reserved.new.self.items ≡ c.args.ends.now.items ++ c.in_ok-end.end ∷ [] = search rules in
    cuts_after c.args.items.now.items c.args.clause.now _ c.args.ends.now.items _ c.in_ok-end.end end items ends c.requires
