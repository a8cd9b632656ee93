use Rattle.std.proofs.Common.{suc, sym}
use Rattle.term_bank.specs.Forest.{tree_at}
use Rattle.cert_index.proofs.SelectedAtoms.{selected_atom}
use Rattle.cert_index.proofs.HeadLaws.{atom_symbol, number_known}
use Rattle.cert_index.proofs.partners.head.Goals as goal

pub unreachable-requires : goal.unreachable-requires
unreachable-requires c =
    let cert = c.args.cert.now in
    let l = c.selected.result.now in
    atom_symbol (tree_at cert.base.bank l.atom) (selected_atom cert c.requires.whole (suc c.args.i) l c.selected.ensures) (sym c.in-None.ensures.symbol)

pub returns : goal.returns
returns c =
    let cert = c.args.cert.now in
    let l = c.selected.result.now in
    record {
      literal = l;
      is = c.selected.ensures;
      head = c.in-Some.ensures.is;
      known = number_known cert.base.bank (tree_at cert.base.bank l.atom) c.in-Some.head.atom (selected_atom cert c.requires.whole (suc c.args.i) l c.selected.ensures) c.in-Some.ensures.symbol;
    }
