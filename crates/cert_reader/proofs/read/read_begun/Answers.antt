use Rattle.std.proofs.Common.{true, false}
use Rattle.cert_reader.proofs.Beginnings.{saturation_begun, no_other_format, with_form}
use Rattle.cert_reader.proofs.read.read_begun.Goals as goal

pub returns-then-shape-clause-read : goal.returns-then-shape-clause-read
returns-then-shape-clause-read c text b = c.begun_refutation.ensures.read text (with_form text c.args.shape true c.args.name.now c.args.bytes.now c.if-shape.true b)

pub returns-then-shape-clause-refused : goal.returns-then-shape-clause-refused
returns-then-shape-clause-refused c text b = c.begun_refutation.ensures.refused text (with_form text c.args.shape true c.args.name.now c.args.bytes.now c.if-shape.true b)

pub returns-else-shape-clause-read : goal.returns-else-shape-clause-read
returns-else-shape-clause-read c text b =
    let k = with_form text c.args.shape false c.args.name.now c.args.bytes.now c.if-shape.false b in
    c.read_saturation.ensures.read text (saturation_begun text c.args.shape.format c.args.name.now c.args.bytes.now k)

pub returns-else-shape-clause-refused : goal.returns-else-shape-clause-refused
returns-else-shape-clause-refused c text b =
    let k = with_form text c.args.shape false c.args.name.now c.args.bytes.now c.if-shape.false b in
    c.read_saturation.ensures.refused text (saturation_begun text c.args.shape.format c.args.name.now c.args.bytes.now k) (no_other_format text c.args.shape c.args.name.now c.args.bytes.now b)
