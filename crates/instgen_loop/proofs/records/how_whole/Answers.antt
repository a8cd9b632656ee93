use Rattle.std.proofs.Common.{ap}
use Rattle.inst_calculus.specs.Unrolling.{instance_of}
use Rattle.instgen_loop.proofs.records.how_whole.Goals as goal

pub returns-clause-told : goal.returns-clause-told
returns-clause-told c = λ clause k. ap (instance_of c.args.at.from) (c.in_ok-conclusion.ensures.terms clause k)
