use Rattle.std.proofs.Common.{take}
use Rattle.instgen_loop.specs.LineNumbers.{AreIndexed}
use Rattle.instgen_loop.proofs.line_numbers.index_lines.Given as goal

abbrev pub invariant-loop-i : goal.invariant-loop-i
invariant-loop-i l = AreIndexed (take l.i l.lines) l.index.entries
