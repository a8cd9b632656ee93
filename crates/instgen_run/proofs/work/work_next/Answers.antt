use Rattle.instgen_run.proofs.Alike.{first_done, second_done}
use Rattle.instgen_run.proofs.work.work_next.Goals as goal

pub work_pair-requires-clause-first_done : goal.work_pair-requires-clause-first_done
work_pair-requires-clause-first_done g c = λ e. first_done c.args.run.now c.args.pick.entry c.args.j c.args.last c.requires.last (c.is_done_with-first.ensures e)

pub work_pair-requires-clause-second_done : goal.work_pair-requires-clause-second_done
work_pair-requires-clause-second_done g c = λ e. second_done c.args.run.now c.args.pick.entry c.args.j c.args.pick.indexed c.requires.indexed (c.is_done_with-second.ensures e)

pub returns-then-are_both-clause-worked : goal.returns-then-are_both-clause-worked
returns-then-are_both-clause-worked g c =
    let (a, b) = c.are_both.ensures c.if-are_both.true in (
      first_done c.args.run.now c.args.pick.entry c.args.j c.args.last c.requires.last (c.is_done_with-first.ensures a),
      second_done c.args.run.now c.args.pick.entry c.args.j c.args.pick.indexed c.requires.indexed (c.is_done_with-second.ensures b),
    )
