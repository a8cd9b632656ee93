use Rattle.std.proofs.Common.{arith}
use Rattle.outside_io.proofs.Counted.{one_read}
use Rattle.outside_io.proofs.whole.read_rest.Goals as goal

pub returns-in_default-clause-reads : goal.returns-in_default-clause-reads
returns-in_default-clause-reads g c = one_read _ _ _ _ _ c.loop-count.invariant.reads c.read.ensures.reads (omega (arith, c.loop-count.invariant.within))

pub returns-then-count-eq0-clause-reads : goal.returns-then-count-eq0-clause-reads
returns-then-count-eq0-clause-reads g c = one_read _ _ _ _ _ c.loop-count.invariant.reads c.read.ensures.reads (omega (arith, c.loop-count.invariant.within))

pub returns-then-count-eq0-clause-one_a_byte : goal.returns-then-count-eq0-clause-one_a_byte
returns-then-count-eq0-clause-one_a_byte g c = one_read _ _ _ _ _ c.loop-count.invariant.reads c.read.ensures.reads (omega (arith, c.loop-count.invariant.within))

pub returns-then-count-limit-clause-reads : goal.returns-then-count-limit-clause-reads
returns-then-count-limit-clause-reads g c = one_read _ _ _ _ _ c.loop-count.invariant.reads c.read.ensures.reads (omega (arith, c.loop-count.invariant.within))

pub returns-then-is_err-clause-reads : goal.returns-then-is_err-clause-reads
returns-then-is_err-clause-reads g c = one_read _ _ _ _ _ c.loop-count.invariant.reads c.read.ensures.reads (omega (arith, c.loop-count.invariant.within))
