use Rattle.instgen_run.proofs.Alike.{if_some_weaker}
use Rattle.instgen_run.proofs.work.work_with.Goals as goal

pub work_all-requires-clause-indexed : goal.work_all-requires-clause-indexed
work_all-requires-clause-indexed g c = if_some_weaker c.in_ok-indexed.indexed (λ k (atom, i).
    let h = c.requires.own_stored (atom, k) i in
    (h.0, h.1, λ p j. c.requires.worked (atom, k) p i j)) c.in_ok-indexed.ensures
