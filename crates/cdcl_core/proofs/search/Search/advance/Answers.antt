use Rattle.std.proofs.Common.{List, ℕ, arith}
use Rattle.std.specs.Prelude.{All}
use Rattle.inst_logic.specs.declared.signed.Signed.{Signed}
use Rattle.cdcl_core.specs.declared.search.Search.{Search}
use Rattle.cdcl_core.specs.Search.{IsSearch, IsTrueUpTo, Continues}
use Rattle.cdcl_core.proofs.LogLaws.{named_below}
use Rattle.cdcl_core.proofs.KeptLaws.{propagated, propagated_kept, continues_from}
use Rattle.cdcl_core.proofs.GoLaws.{if_ok}
use Rattle.cdcl_core.proofs.search.Search.advance.Goals as goal

pub propagate-requires-clause-below : goal.propagate-requires-clause-below
propagate-requires-clause-below c = let s = c.args.self.now in named_below s.trail.trail.atoms s.clauses s.log c.requires.search.kept.log

pub resolve-requires-clause-kept : goal.resolve-requires-clause-kept
resolve-requires-clause-kept c = propagated_kept c.args.self.now c.propagate.new.self c.in_ok-conflict.ensures.added c.in_ok-conflict.ensures.attached c.requires.search.kept

pub choose-requires-clause-kept : goal.choose-requires-clause-kept
choose-requires-clause-kept c = propagated_kept c.args.self.now c.propagate.new.self c.in_ok-conflict.ensures.added c.in_ok-conflict.ensures.attached c.requires.search.kept

pub assume-requires-clause-search : goal.assume-requires-clause-search
assume-requires-clause-search c = propagated c.args.assumptions.now c.args.self.now c.propagate.new.self c.in_ok-conflict.ensures.added c.in_ok-conflict.ensures.attached c.requires.search

pub returns-then-self-level-clause-goes : goal.returns-then-self-level-clause-goes
returns-then-self-level-clause-goes c =
    let old = c.args.self.now in
    let t = c.propagate.new.self in
    let mid : Search = record old { trail = t } in
    let assumptions = c.args.assumptions.now in
    let s = propagated assumptions old t c.in_ok-conflict.ensures.added c.in_ok-conflict.ensures.attached c.requires.search in
    if_ok c.choose.result
    (λ found. (xs : List (Signed ℕ)) → IsSearch xs mid → All (IsTrueUpTo t.trail.entries mid.assumed) xs → Continues xs mid c.choose.new.self found)
    (Continues assumptions old c.choose.new.self)
    (λ found h. continues_from assumptions old c.choose.new.self t found c.in_ok-conflict.ensures.added (h assumptions s (s.all_true (omega (arith, c.if-self-level.true, c.level.ensures)))))
    c.choose.ensures.goes

pub returns-in-Some-clause-goes : goal.returns-in-Some-clause-goes
returns-in-Some-clause-goes c =
    let old = c.args.self.now in
    let t = c.propagate.new.self in
    let mid : Search = record old { trail = t } in
    let assumptions = c.args.assumptions.now in
    let s = propagated assumptions old t c.in_ok-conflict.ensures.added c.in_ok-conflict.ensures.attached c.requires.search in
    if_ok c.resolve.result
    (λ found. (xs : List (Signed ℕ)) → IsSearch xs mid → Continues xs mid c.resolve.new.self found)
    (Continues assumptions old c.resolve.new.self)
    (λ found h. continues_from assumptions old c.resolve.new.self t found c.in_ok-conflict.ensures.added (h assumptions s))
    c.resolve.ensures.goes

pub returns-else-self-level-clause-goes : goal.returns-else-self-level-clause-goes
returns-else-self-level-clause-goes c =
    let old = c.args.self.now in
    let t = c.propagate.new.self in
    let mid : Search = record old { trail = t } in
    let assumptions = c.args.assumptions.now in
    if_ok c.assume.result (Continues assumptions mid c.assume.new.self) (Continues assumptions old c.assume.new.self)
    (λ found h. continues_from assumptions old c.assume.new.self t found c.in_ok-conflict.ensures.added h) c.assume.ensures.goes
