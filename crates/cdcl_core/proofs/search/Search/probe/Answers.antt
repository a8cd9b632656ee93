use Rattle.std.proofs.Common.{◌≡◌, ℕ, List, [], Option, refl, ap, ◌∙◌}
use Rattle.std.proofs.lemmas.List.Elements.{All-nil}
use Rattle.inst_logic.specs.declared.signed.Signed.{Signed}
use Rattle.cdcl_trail.specs.Attached.{WatchedTrail, AreAttached}
use Rattle.cdcl_trail.specs.Trail.{with_decision}
use Rattle.cdcl_core.specs.declared.search.Search.{Search}
use Rattle.cdcl_core.specs.Search.{IsTrueUpTo, IsSearch, IsSameProblem, IsProbed, Continues}
use Rattle.cdcl_core.proofs.LogLaws.{named_below}
use Rattle.cdcl_core.proofs.StepLaws.{unset_of, decided_kept, chosen_search}
use Rattle.cdcl_core.proofs.KeptLaws.{propagated, propagated_kept, probed_by}
use Rattle.cdcl_core.proofs.GoLaws.{if_ok}
use Rattle.cdcl_core.proofs.search.Search.probe.Goals as goal

-- a decision where nothing is assumed
decided : (old : Search) (t : WatchedTrail) (l : Signed ℕ) → t.trail ≡ with_decision old.trail.trail l → ((clauses : List (Option (List (Signed ℕ)))) → AreAttached old.trail clauses → AreAttached t clauses) → IsSearch [] old → IsSearch [] (record old { trail = t })
decided old t l trail attached s =
    let new : Search = record old { trail = t } in
    let kept = decided_kept old new l trail attached refl refl refl refl s.kept in
    chosen_search [] old new l trail kept refl refl s (All-nil (IsTrueUpTo old.trail.trail.entries old.assumed))

pub decide-requires-clause-unset : goal.decide-requires-clause-unset
decide-requires-clause-unset c = unset_of c.args.self.now.trail.trail.entries c.args.lit.atom c.requires.open

pub propagate-requires-clause-below : goal.propagate-requires-clause-below
propagate-requires-clause-below c =
    let old = c.args.self.now in
    let s = decided old c.decide.new.self c.args.lit c.decide.ensures.trail c.decide.ensures.attached c.requires.search in
    named_below c.decide.new.self.trail.atoms old.clauses old.log s.kept.log

pub resolve-requires-clause-kept : goal.resolve-requires-clause-kept
resolve-requires-clause-kept c =
    let old = c.args.self.now in
    let s = decided old c.decide.new.self c.args.lit c.decide.ensures.trail c.decide.ensures.attached c.requires.search in
    propagated_kept (record old { trail = c.decide.new.self }) c.propagate.new.self c.in_ok-conflict.ensures.added c.in_ok-conflict.ensures.attached s.kept

pub unprobe-requires-clause-kept : goal.unprobe-requires-clause-kept
unprobe-requires-clause-kept c =
    let old = c.args.self.now in
    let s = decided old c.decide.new.self c.args.lit c.decide.ensures.trail c.decide.ensures.attached c.requires.search in
    propagated_kept (record old { trail = c.decide.new.self }) c.propagate.new.self c.in_ok-conflict.ensures.added c.in_ok-conflict.ensures.attached s.kept

pub returns-in-Some-clause-probed : goal.returns-in-Some-clause-probed
returns-in-Some-clause-probed c =
    let old = c.args.self.now in
    let mid : Search = record old { trail = c.decide.new.self } in
    let low : Search = record old { trail = c.propagate.new.self } in
    let new = c.resolve.new.self in
    let p = c.in_ok-conflict.ensures in
    let s = propagated [] mid c.propagate.new.self p.added p.attached (decided old c.decide.new.self c.args.lit c.decide.ensures.trail c.decide.ensures.attached c.requires.search) in
    let same : IsSameProblem old low = record { atoms = p.added.atoms ∙ ap (λ x. x.atoms) c.decide.ensures.trail; added = refl } in
    if_ok c.resolve.result
    (λ found. (xs : List (Signed ℕ)) → IsSearch xs low → Continues xs low new found)
    (IsProbed [] old new)
    (λ found h. probed_by [] old low new found same (h [] s))
    c.resolve.ensures.goes
