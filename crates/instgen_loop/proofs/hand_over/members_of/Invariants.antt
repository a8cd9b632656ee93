use Rattle.std.proofs.Common.{◌≡◌, ◌++◌, map}
use Rattle.instgen_loop.specs.Refuting.{member_of}
use Rattle.instgen_loop.proofs.hand_over.members_of.Given as goal

abbrev pub invariant-loop-clause : goal.invariant-loop-clause
invariant-loop-clause l = l.members.items ++ map member_of l.clause-iterator ≡ map member_of l.initial.clause-iterator
