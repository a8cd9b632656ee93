use Rattle.cert_items.proofs.GroupNotes.{no_ground_form}
use Rattle.cert_items.proofs.note.ground_note.Goals as goal

pub returns-then-not-shape-clause-none : goal.returns-then-not-shape-clause-none
returns-then-not-shape-clause-none c = no_ground_form c.args.shape c.args.n c.args.bytes.now c.if-not-shape.true

pub returns-else-shape-eq1-clause-some : goal.returns-else-shape-eq1-clause-some
returns-else-shape-eq1-clause-some c = c.ground_by.ensures.some c.args.n
