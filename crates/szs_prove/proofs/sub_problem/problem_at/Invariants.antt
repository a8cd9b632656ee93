use Rattle.std.proofs.Common.{◌≡◌, take}
use Rattle.szs_prove.specs.SubProblems.{problem_at}
use Rattle.szs_prove.proofs.sub_problem.problem_at.Given as goal

abbrev pub invariant-loop-i : goal.invariant-loop-i
invariant-loop-i l = l.sub ≡ problem_at l.p (take l.i l.places)
