use Rattle.std.proofs.Common.{nat_eq}
use Rattle.std.proofs.lemmas.Bool.Decides.{Decides-eqb}
use Rattle.std.proofs.lemmas.Slice.Eq.{slice_eq-Decides}
use Rattle.inst_logic.proofs.SameLemmas.{signed_eq_decides}
use Rattle.cert_inference.proofs.equal.same_clause.Goals as goal

pub returns : goal.returns
returns c = slice_eq-Decides (signed_eq_decides nat_eq Decides-eqb) c.args.c.now c.args.d.now c.eq.result c.eq.ensures
