use Rattle.cert_front.proofs.Rewritings.{stays}
use Rattle.cert_front.proofs.laws.newest_texts_stay.Goals as goal

pub returns : goal.returns
returns c = stays
