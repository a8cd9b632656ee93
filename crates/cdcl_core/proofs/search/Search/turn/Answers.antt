use Rattle.cdcl_core.specs.Search.{Continues}
use Rattle.cdcl_core.proofs.ForgetLaws.{same_search, continues_less}
use Rattle.cdcl_core.proofs.GoLaws.{if_ok}
use Rattle.cdcl_core.proofs.search.Search.turn.Goals as goal

pub advance-requires-clause-search : goal.advance-requires-clause-search
advance-requires-clause-search c = same_search c.args.assumptions.now c.args.self.now c.reduce.new.self c.reduce.ensures.same c.requires.search

pub returns-clause-goes : goal.returns-clause-goes
returns-clause-goes c =
    let assumptions = c.args.assumptions.now in
    let old = c.args.self.now in
    let mid = c.reduce.new.self in
    let new = c.advance.new.self in
    if_ok c.advance.result (Continues assumptions mid new) (Continues assumptions old new) (λ found h. continues_less assumptions old mid new found c.reduce.ensures.same h) c.advance.ensures.goes
