use Rattle.szs_prove.proofs.GrownTests.{filled, light_read, placed_read, where_all}
use Rattle.szs_prove.proofs.saturation_test.fill.Goals as goal

pub are_short-requires-clause-placed : goal.are_short-requires-clause-placed
are_short-requires-clause-placed c = placed_read c.args.cert.now c.cert.result.now c.cert.ensures.is c.cert.ensures.named

pub store_selected-requires-clause-placed : goal.store_selected-requires-clause-placed
store_selected-requires-clause-placed c = placed_read c.args.cert.now c.cert.result.now c.cert.ensures.is c.cert.ensures.named

pub returns-clause-ready : goal.returns-clause-ready
returns-clause-ready c =
    where_all c.store_selected.result c.store_selected.ensures.positive_fits c.store_selected.ensures.negative_fits c.store_selected.ensures.positive c.store_selected.ensures.negative
    (filled c.args.cert.now c.cert.result.now c.store_selected.new.positive c.store_selected.new.negative c.cert.ensures.is c.cert.ensures.whole c.cert.ensures.named
    (light_read c.args.cert.now c.cert.result.now c.cert.ensures.is c.requires.formed c.requires.function_free c.cert.ensures.named c.are_short.ensures c.selected_by_number.ensures.numbered))

pub returns-clause-makes : goal.returns-clause-makes
returns-clause-makes c = c.named_is_valid.ensures.makes _ c.requires.formed c.cert.ensures.named
