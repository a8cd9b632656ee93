use Rattle.std.proofs.Common.{◌≡◌, ◌≢◌, Bool, true, List, ℕ}
use Rattle.cert_format.specs.LineMachine as lines
use Rattle.cert_format.specs.LineTexts.{line, is_text_name}
use Rattle.cert_reader.proofs.NameLines.{by_bool}
use Rattle.cert_reader.proofs.lines.status.Goals as goal

pub returns-in-None-name_behind-clause-none : goal.returns-in-None-name_behind-clause-none
returns-in-None-name_behind-clause-none c r n rest h e =
    by_bool (λ (b : Bool). (m x : List ℕ) → is_text_name m ≡ true → c.args.bytes.now ≢ line (lines.status b m) x) c.in-None.ensures.none c.in-None-name_behind.ensures.none r n rest h e
