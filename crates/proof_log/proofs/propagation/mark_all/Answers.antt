use Rattle.std.proofs.Common.{◌<◌, false, ◌++◌, get_or, ap, ◌∙◌, subst, arith}
use Rattle.std.proofs.lemmas.List.{take_all}
use Rattle.proof_log.specs.Marks.{room, Holds}
use Rattle.proof_log.proofs.MarkedSets.{with_mark_room, holds_more}
use Rattle.proof_log.proofs.propagation.mark_all.Goals as goal

pub loop-lit-preserved : goal.loop-lit-preserved
loop-lit-preserved c =
    let within : (get_or c.args.clause.now c.loop-lit.lit-index (record { atom = 0; positive = false })).atom < room c.args.marks.now = c.requires c.loop-lit.lit-index (record { atom = 0; positive = false }) c.loop-lit-test.true in
    record {
      same_room = ap room c.insert.ensures ∙ with_mark_room c.loop-lit.marks _ ∙ c.loop-lit.invariant.same_room;
      marked = λ F h. holds_more c.loop-lit.marks c.insert.new.self F c.args.clause.now c.loop-lit.lit-index (record { atom = 0; positive = false }) c.loop-lit-test.true c.insert.ensures (omega (arith, c.loop-lit.invariant.same_room)) (c.loop-lit.invariant.marked F h);
    }

pub returns-clause-marked : goal.returns-clause-marked
returns-clause-marked c = λ F h.
    subst (λ xs. Holds c.loop-lit.marks (F ++ xs)) (take_all c.loop-lit.lit-index c.args.clause.now c.loop-lit-test.false) (c.loop-lit.invariant.marked F h)
