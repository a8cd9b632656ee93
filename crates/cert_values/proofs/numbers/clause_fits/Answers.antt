use Rattle.std.proofs.Common.{◌<◌, length, arith}
use Rattle.std.proofs.Common.{ℕ}
use Rattle.std.specs.Prelude.{IsTrue}
use Rattle.inst_logic.specs.declared.signed.Signed.{Signed}
use Rattle.inst_logic.specs.Readable.{tree_fits}
use Rattle.term_bank.specs.Forest.{tree_at}
use Rattle.cert_values.proofs.Fitting.{clause_fits_when}
use Rattle.cert_values.proofs.EachItem.{each_item, each_more, each_read}
use Rattle.cert_values.proofs.numbers.clause_fits.Goals as goal

pub atom_fits-requires : goal.atom_fits-requires
atom_fits-requires c = (each_item (λ (x : Signed ℕ). x.atom < length c.args.bank.now.trees) c.args.clause.now c.as_slice-l-items.result.now c.loop-l.l-index c.l-item.result c.requires c.as_slice-l-items.ensures (omega (arith, c.loop-l-test.true)) c.l-item.is)

pub loop-l-preserved : goal.loop-l-preserved
loop-l-preserved c = each_more (λ (x : Signed ℕ). IsTrue (tree_fits (tree_at c.args.bank.now x.atom))) c.as_slice-l-items.result.now c.loop-l.l-index c.l-item.result c.loop-l.invariant c.atom_fits.ensures (omega (arith, c.loop-l-test.true)) c.l-item.is

pub returns : goal.returns
returns c = clause_fits_when c.args.bank.now c.args.clause.now (each_read (λ (x : Signed ℕ). IsTrue (tree_fits (tree_at c.args.bank.now x.atom))) c.args.clause.now c.as_slice-l-items.result.now c.loop-l.l-index c.loop-l.invariant c.as_slice-l-items.ensures (omega (arith, c.loop-l-test.false)))
