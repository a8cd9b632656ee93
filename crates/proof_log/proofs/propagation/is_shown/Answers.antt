use Rattle.std.proofs.Common.{◌≡◌, ◌<◌, [], length, map, sym, ap, ◌∙◌, subst, arith, ◌↔◌}
use Rattle.std.specs.Prelude.{IsTrue}
use Rattle.std.proofs.lemmas.List.{length-map}
use Rattle.std.proofs.lemmas.Bool.{eqb-false}
use Rattle.prop_logic.specs.Literal.{cited}
use Rattle.prop_logic.specs.Analysis.{ClosesAll}
use Rattle.proof_log.specs.Marks.{room, Holds}
use Rattle.proof_log.proofs.Hints.{shown_by_hints}
use Rattle.proof_log.proofs.MarkedSets.{holds_none}
use Rattle.proof_log.proofs.propagation.is_shown.Goals as goal

pub is_tautology-requires-clause-marked : goal.is_tautology-requires-clause-marked
is_tautology-requires-clause-marked c =
    c.mark_all.ensures.marked [] (holds_none c.clear.new.self (room c.args.marks.now) c.clear.ensures.positive c.clear.ensures.negative)

pub returns-else-is_empty-clause-shown : goal.returns-else-is_empty-clause-shown
returns-else-is_empty-clause-shown c =
    let name = cited c.args.given.now c.args.earlier.now in
    let clause = c.args.step.now.clause in
    let hints = c.args.step.now.hints in
    let held : Holds c.mark_all.new.marks c.as_slice-clause.result.now = c.mark_all.ensures.marked [] (holds_none c.clear.new.self (room c.args.marks.now) c.clear.ensures.positive c.clear.ensures.negative) in
    let closed : IsTrue c.closes.result ↔ ClosesAll clause (map name hints) =
    subst (λ xs. IsTrue c.closes.result ↔ ClosesAll xs (map name hints)) c.as_slice-clause.ensures
    (subst (λ hs. IsTrue c.closes.result ↔ ClosesAll c.as_slice-clause.result.now (map name hs)) c.as_slice-hints.ensures (c.closes.ensures.closed c.as_slice-clause.result.now held)) in
    let count : length c.as_slice-hints.result.now ≡ length hints = ap length c.as_slice-hints.ensures in
    let not_none : length c.as_slice-hints.result.now ≡ 0 → ⊥ = eqb-false _ 0 (sym c.is_empty.ensures ∙ c.if-is_empty.false) in
    let same : length (map name hints) ≡ length hints = length-map hints name in
    let some : 0 < length (map name hints) = omega arith in
    let shown = shown_by_hints clause (map name hints) some in
    (λ e. shown.1 (closed.0 e), λ s. closed.1 (shown.0 s))
