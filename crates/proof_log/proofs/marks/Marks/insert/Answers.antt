use Rattle.std.proofs.Common.{ap, ◌∙◌}
use Rattle.proof_log.specs.Marks.{with_mark}
use Rattle.proof_log.proofs.Stamps.{insert_positive, insert_negative}
use Rattle.proof_log.proofs.marks.Marks.insert.Goals as goal

pub returns-then-l : goal.returns-then-l
returns-then-l c = insert_positive c.self.inside.positive.items c.self.inside.negative.items c.self.inside.present c.args.l c.if-l.true ∙ ap (λ m. with_mark m c.args.l) c.self.view_is

pub returns-else-l : goal.returns-else-l
returns-else-l c = insert_negative c.self.inside.positive.items c.self.inside.negative.items c.self.inside.present c.args.l c.if-l.false ∙ ap (λ m. with_mark m c.args.l) c.self.view_is
