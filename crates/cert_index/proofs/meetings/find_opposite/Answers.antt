use Rattle.std.proofs.Common.{List, ℕ, subst, arith}
use Rattle.std.specs.List.{Contains}
use Rattle.cert_index.specs.Chains.{AreAlike}
use Rattle.cert_index.proofs.MeetingLaws.{opposite_alike}
use Rattle.cert_index.proofs.meetings.find_opposite.Goals as goal

pub find_alike-requires-clause-there : goal.find_alike-requires-clause-there
find_alike-requires-clause-there c q h = let low = c.in_ok-find_opposite_heads.ensures.within q (subst (λ (xs : List ℕ). Contains xs q) c.as_slice.ensures.value h) in omega (arith, c.requires.count, low)

pub returns : goal.returns
returns c =
    let ps = c.args.fingerprints.now in
    let qs = c.find_alike.new.alike.items in
    opposite_alike c.args.classes.now.heads.items c.args.p ps c.find_opposite_heads.new.opposite.items qs c.in_ok-find_opposite_heads.ensures
    (subst (λ (xs : List ℕ). AreAlike ps c.args.p xs qs) c.as_slice.ensures.value c.in_ok-find_alike.ensures)
