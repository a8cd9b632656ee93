use Rattle.std.proofs.Common.{◌∙◌, arith}
use Rattle.szs_prove.proofs.ChainClauses.{named_by_number}
use Rattle.szs_prove.proofs.chain_problem.number_name.Goals as goal

pub returns : goal.returns
returns c = named_by_number c.of.result c.as_bytes.result.now c.args.n (omega arith) (c.as_bytes.ensures.value ∙ c.format.ensures.text) c.of.ensures
