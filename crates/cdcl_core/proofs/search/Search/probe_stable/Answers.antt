use Rattle.std.proofs.Common.{ℕ, List, [], refl}
use Rattle.inst_logic.specs.declared.signed.Signed.{Signed}
use Rattle.cdcl_core.specs.declared.search.Search.{Search}
use Rattle.cdcl_core.specs.Search.{IsSearch, IsSameProblem, IsProbed, Continues}
use Rattle.cdcl_core.proofs.LogLaws.{named_below}
use Rattle.cdcl_core.proofs.KeptLaws.{propagated, propagated_kept, probed_by, probed_from}
use Rattle.cdcl_core.proofs.GoLaws.{if_ok}
use Rattle.cdcl_core.proofs.search.Search.probe_stable.Goals as goal

pub propagate-requires-clause-below : goal.propagate-requires-clause-below
propagate-requires-clause-below c = let s = c.args.self.now in named_below s.trail.trail.atoms s.clauses s.log c.requires.search.kept.log

pub resolve-requires-clause-kept : goal.resolve-requires-clause-kept
resolve-requires-clause-kept c = propagated_kept c.args.self.now c.propagate.new.self c.in_ok-conflict.ensures.added c.in_ok-conflict.ensures.attached c.requires.search.kept

pub probe_next-requires : goal.probe_next-requires
probe_next-requires c = record { search = propagated [] c.args.self.now c.propagate.new.self c.in_ok-conflict.ensures.added c.in_ok-conflict.ensures.attached c.requires.search }

pub returns-in-Some-clause-probed : goal.returns-in-Some-clause-probed
returns-in-Some-clause-probed c =
    let old = c.args.self.now in
    let low : Search = record old { trail = c.propagate.new.self } in
    let new = c.resolve.new.self in
    let p = c.in_ok-conflict.ensures in
    let s = propagated [] old c.propagate.new.self p.added p.attached c.requires.search in
    let same : IsSameProblem old low = record { atoms = p.added.atoms; added = refl } in
    if_ok c.resolve.result
    (λ found. (xs : List (Signed ℕ)) → IsSearch xs low → Continues xs low new found)
    (IsProbed [] old new)
    (λ found h. probed_by [] old low new found same (h [] s))
    c.resolve.ensures.goes

pub returns-in-None-clause-probed : goal.returns-in-None-clause-probed
returns-in-None-clause-probed c =
    let old = c.args.self.now in
    let low : Search = record old { trail = c.propagate.new.self } in
    let new = c.probe_next.new.self in
    let same : IsSameProblem old low = record { atoms = c.in_ok-conflict.ensures.added.atoms; added = refl } in
    if_ok c.probe_next.result (IsProbed [] low new) (IsProbed [] old new) (λ found h. probed_from [] old low new found same h) c.probe_next.ensures.probed
