use Rattle.std.proofs.Common.{◌≡◌, ℕ, ◌+◌, ◌<◌}
use Rattle.cert_check.specs.Numbered.{IsRightNumber}
use Rattle.cert_check.proofs.steps.first_wrong.Given as goal

abbrev pub invariant-loop-i : goal.invariant-loop-i
invariant-loop-i l = record {
  room : l.checker ≡ l.fn.checker;
  right : (m : ℕ) → m < l.i + 1 → IsRightNumber l.given l.derivation m;
}
