use Rattle.std.proofs.Common.{◌≢◌, Bool, List, ℕ, IfNone, sym, subst}
use Rattle.cert_format.specs.LineMachine as lines
use Rattle.cert_format.specs.LineTexts.{line}
use Rattle.cert_reader.proofs.lines.ending.Goals as goal

pub returns-then-refutation-clause-none : goal.returns-then-refutation-clause-none
returns-then-refutation-clause-none c =
    subst (λ (b : Bool). IfNone c.about.result ((rest : List ℕ) → c.args.bytes.now ≢ line (lines.closing b c.args.name.now) rest)) (sym c.if-refutation.true) c.about.ensures.none

pub returns-else-refutation-clause-none : goal.returns-else-refutation-clause-none
returns-else-refutation-clause-none c =
    subst (λ (b : Bool). IfNone c.about-else-refutation.result ((rest : List ℕ) → c.args.bytes.now ≢ line (lines.closing b c.args.name.now) rest)) (sym c.if-refutation.false) c.about-else-refutation.ensures.none
