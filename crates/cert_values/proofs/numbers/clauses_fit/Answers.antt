use Rattle.std.proofs.Common.{arith}
use Rattle.std.proofs.Common.{ℕ, List}
use Rattle.std.proofs.lemmas.List.Elements.{All-map}
use Rattle.inst_logic.specs.declared.signed.Signed.{Signed}
use Rattle.cert_format.specs.Printable.{ClauseFits}
use Rattle.term_bank.specs.Forest.{clause_at}
use Rattle.cert_values.specs.Wholes.{IsWholeClause}
use Rattle.cert_values.proofs.EachItem.{each_item, each_more, each_read}
use Rattle.cert_values.proofs.numbers.clauses_fit.Goals as goal

pub clause_fits-requires : goal.clause_fits-requires
clause_fits-requires c = (each_item (IsWholeClause c.args.bank.now) c.args.clauses.now c.as_slice-clause-items.result.now c.loop-clause.clause-index c.clause-item.result c.requires c.as_slice-clause-items.ensures (omega (arith, c.loop-clause-test.true)) c.clause-item.is).ids

pub loop-clause-preserved : goal.loop-clause-preserved
loop-clause-preserved c = each_more (λ (x : List (Signed ℕ)). ClauseFits (clause_at c.args.bank.now x)) c.as_slice-clause-items.result.now c.loop-clause.clause-index c.clause-item.result c.loop-clause.invariant c.clause_fits.ensures (omega (arith, c.loop-clause-test.true)) c.clause-item.is

pub returns-clause-each : goal.returns-clause-each
returns-clause-each c = All-map ClauseFits (clause_at c.args.bank.now) c.args.clauses.now (each_read (λ (x : List (Signed ℕ)). ClauseFits (clause_at c.args.bank.now x)) c.args.clauses.now c.as_slice-clause-items.result.now c.loop-clause.clause-index c.loop-clause.invariant c.as_slice-clause-items.ensures (omega (arith, c.loop-clause-test.false)))
