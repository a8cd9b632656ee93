use Rattle.szs_prove.proofs.CellLines.{cell_written}
use Rattle.szs_prove.proofs.table_texts.push_table.Goals as goal

pub loop-row-preserved : goal.loop-row-preserved
loop-row-preserved c =
    cell_written c.args.k c.args.table.now c.loop-row.row c.in_ok-es.es.items c.as_slice.result.now c.as_slice-cells.result.now c.args.text.now.items c.loop-row.text.items c.push_cell.new.text.items
    c.in_ok-es.ensures c.as_slice.ensures.value c.as_slice-cells.ensures (c.cells_in_order.ensures.places c.args.k c.in_ok-es.es.items c.in_ok-es.ensures.elements) c.loop-row.invariant c.in_ok-push_cell.ensures
