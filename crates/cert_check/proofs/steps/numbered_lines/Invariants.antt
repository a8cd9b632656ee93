use Rattle.std.proofs.Common.{◌≡◌, map, take}
use Rattle.cert_values.specs.declared.certificate.GroundLine.{GroundLine}
use Rattle.cert_check.proofs.steps.numbered_lines.Given as goal

abbrev pub invariant-loop-line : goal.invariant-loop-line
invariant-loop-line l = l.lists ≡ map (λ (g : GroundLine). g.clause) (take l.line-index l.line-items)
