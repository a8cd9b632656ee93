use Rattle.std.proofs.Common.{◌-◌, ◌<◌, length, get_or, arith}
use Rattle.cert_values.proofs.Chosen.{place_is_right, literal_is_selected}
use Rattle.cert_values.proofs.selected_literal.selected.Goals as goal

pub overflow_sub-result : goal.overflow_sub-result
overflow_sub-result c = (place_is_right c.args.cert.now c.requires.whole c.args.i c.requires.placed c.requires.within _ c.as_slice.ensures c.index-as_slice-i.result c.index-as_slice-i.is _ c.as_slice-2.ensures _ c.as_slice-3.ensures).0

pub offset_bounds-as_slice-place : goal.offset_bounds-as_slice-place
offset_bounds-as_slice-place c =
    let h : get_or c.as_slice-2.result.now c.args.i 0 - 1 < length c.as_slice-3.result.now = (place_is_right c.args.cert.now c.requires.whole c.args.i c.requires.placed c.requires.within _ c.as_slice.ensures c.index-as_slice-i.result c.index-as_slice-i.is _ c.as_slice-2.ensures _ c.as_slice-3.ensures).1 in
    omega (arith, c.as_slice-3.type_inv)

pub bounds-as_slice-place : goal.bounds-as_slice-place
bounds-as_slice-place c = (place_is_right c.args.cert.now c.requires.whole c.args.i c.requires.placed c.requires.within _ c.as_slice.ensures c.index-as_slice-i.result c.index-as_slice-i.is _ c.as_slice-2.ensures _ c.as_slice-3.ensures).1

pub returns : goal.returns
returns c = literal_is_selected c.args.cert.now c.requires.whole c.args.i c.requires.placed c.requires.within _ c.as_slice.ensures c.index-as_slice-i.result c.index-as_slice-i.is _ c.as_slice-2.ensures _ c.as_slice-3.ensures c.index-as_slice-place.result c.index-as_slice-place.is
