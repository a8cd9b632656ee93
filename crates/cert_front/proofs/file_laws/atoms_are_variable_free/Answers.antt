use Rattle.cert_front.proofs.VariableFree.{atom_free}
use Rattle.cert_front.proofs.file_laws.atoms_are_variable_free.Goals as goal

pub returns : goal.returns
returns c = atom_free
