use Rattle.std.proofs.Common.{List, ℕ}
use Rattle.std.specs.Prelude.{All}
use Rattle.inst_logic.specs.declared.signed.Signed.{Signed}
use Rattle.cdcl_core.specs.Search.{IsSearch, IsTrueUpTo, Continues}
use Rattle.cdcl_core.proofs.GoLaws.{if_ok, up_to_all}
use Rattle.cdcl_core.proofs.search.Search.assume.Goals as goal

pub returns-in-None-clause-goes : goal.returns-in-None-clause-goes
returns-in-None-clause-goes c =
    let old = c.args.self.now in
    let assumptions = c.args.assumptions.now in
    if_ok c.choose.result
    (λ found. (xs : List (Signed ℕ)) → IsSearch xs old → All (IsTrueUpTo old.trail.trail.entries old.assumed) xs → Continues xs old c.choose.new.self found)
    (Continues assumptions old c.choose.new.self)
    (λ found h. h assumptions c.requires.search (up_to_all assumptions old c.requires.trail c.requires.level c.in-None.ensures.none))
    c.choose.ensures.goes
