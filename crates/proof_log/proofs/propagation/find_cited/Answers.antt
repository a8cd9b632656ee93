use Rattle.std.proofs.Common.{◌≡◌, ◌<◌, ◌≤◌, length, map, ◌⊎◌, inl, inr, sym, ap, ◌∙◌, arith}
use Rattle.std.proofs.lemmas.List.{length-map}
use Rattle.prop_logic.specs.Literal.{cited}
use Rattle.inst_logic.proofs.Items.{at_number_past}
use Rattle.proof_log.proofs.Hints.{clause_in}
use Rattle.proof_log.proofs.propagation.find_cited.Goals as goal
use Rattle.proof_log.proofs.propagation.find_cited.Goals.{else-n-gt0-2-via-then-n-gt0-2+else-n-earlier, else-n-gt0-2-via-else-n-gt0-2}

pub returns-then-n-earlier : goal.returns-then-n-earlier
returns-then-n-earlier c =
    let earlier = c.args.earlier.now in
    sym (ap (cited c.args.given.now earlier) c.in-Step.is ∙ clause_in earlier c.in-Step.n c.index-earlier-n.result c.if-n-gt0-2.true c.if-n-earlier.true)

pub returns-else-n-gt0-2 : goal.returns-else-n-gt0-2
returns-else-n-gt0-2 c =
    let clauses = map (λ s. s.clause) c.args.earlier.now in
    let same : length clauses ≡ length c.args.earlier.now = length-map c.args.earlier.now (λ s. s.clause) in
    let out : (c.in-Step.n ≤ 0) ⊎ (length clauses < c.in-Step.n) =
    elim c.else-n-gt0-2.branch [
      | else-n-gt0-2-via-then-n-gt0-2+else-n-earlier w ↦ inr (omega (arith, w.if-n-earlier.false))
      | else-n-gt0-2-via-else-n-gt0-2 w ↦ inl w.if-n-gt0-2.false
    ] in
    sym (ap (cited c.args.given.now c.args.earlier.now) c.in-Step.is ∙ at_number_past clauses c.in-Step.n out)
