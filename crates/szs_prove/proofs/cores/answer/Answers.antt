use Rattle.szs_prove.proofs.CoreAnswered.{loaded_is_decidable}
use Rattle.szs_prove.proofs.cores.answer.Goals as goal

pub text_of-requires : goal.text_of-requires
text_of-requires c = loaded_is_decidable c.args.p.now c.requires c.in-None.ensures
