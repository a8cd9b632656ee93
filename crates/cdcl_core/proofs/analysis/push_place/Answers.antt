use Rattle.std.proofs.Common.{◌<◌, ◌∷◌, ℕ, List, Bool, true, length, set, IsPermutation}
use Rattle.cdcl_core.specs.Analysis.{AreWaiting}
use Rattle.cdcl_core.proofs.AnalysisLaws.{waiting_more, waiting_unset}
use Rattle.cdcl_core.proofs.MeetLaws.{on_ok}
use Rattle.cdcl_core.proofs.analysis.push_place.Goals as goal

pub returns-in-None : goal.returns-in-None
returns-in-None c i marks inside w = waiting_unset c.args.trail.now.trail i c.args.atom marks c.args.places.now c.in-None.ensures.none inside w

pub returns-in-Some : goal.returns-in-Some
returns-in-Some c =
    let t = c.args.trail.now.trail in
    let a = c.args.atom in
    let old = c.args.places.now in
    let new = c.push.new.self in
    on_ok c.push.result (IsPermutation (c.in-Some.place ∷ old) new) ((i : ℕ) (marks : List Bool) → a < length marks → AreWaiting t i marks old → AreWaiting t i (set marks a true) new)
    (λ moved i marks inside w. waiting_more t i a c.in-Some.place marks old new c.requires.trail c.in-Some.ensures.some inside moved w) c.push.ensures
