use Rattle.term_bank.proofs.Cuts.{extends_cut, formed_cut}
use Rattle.term_bank.proofs.laws.cut_backs.Goals as goal

pub returns-clause-extends : goal.returns-clause-extends
returns-clause-extends c = extends_cut

pub returns-clause-formed : goal.returns-clause-formed
returns-clause-formed c = formed_cut
