use Rattle.szs_prove.proofs.ChainModels.{chain_has_no_model}
use Rattle.szs_prove.proofs.chain_laws.chains_have_no_model.Goals as goal

pub returns : goal.returns
returns c = chain_has_no_model
