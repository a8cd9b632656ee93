use Rattle.std.specs.Prelude.{option_copied}
use Rattle.cert_front.proofs.Grown.{checked_for}
use Rattle.cert_front.proofs.judgement.judge.Goals as goal

pub returns-in-Ok-None : goal.returns-in-Ok-None
returns-in-Ok-None g c =
    let inputs = rw c.in-Ok-None.field-0-is at c.in-Ok-None.ensures.first in
    checked_for g.C.Kind.checked_value (option_copied c.args.problem) (g.C.Kind.value c.args.cert) (g.C.Kind.value c.difference.new.self) c.difference.ensures.same inputs c.judge_alone.result c.judge_alone.ensures
