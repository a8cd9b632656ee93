use Rattle.std.proofs.Common.{refl, arith}
use Rattle.cert_values.specs.Wholes.{IsWholeClause}
use Rattle.cert_values.proofs.EachItem.{each_item}
use Rattle.cert_text.proofs.listing.push_axioms.Goals as goal

pub push_axiom-requires : goal.push_axiom-requires
push_axiom-requires c = (each_item (IsWholeClause c.args.bank.now) c.args.clauses.now c.args.clauses.now c.loop-i.i c.index-clauses-i.result c.requires refl (omega arith) c.index-clauses-i.is).ids
