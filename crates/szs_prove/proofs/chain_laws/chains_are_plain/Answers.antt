use Rattle.szs_prove.proofs.ChainClauses.{length_chain, chain_function_free, chain_printable}
use Rattle.szs_prove.proofs.chain_laws.chains_are_plain.Goals as goal

pub returns : goal.returns
returns c = record { length = length_chain; function_free = chain_function_free; printable = chain_printable }
