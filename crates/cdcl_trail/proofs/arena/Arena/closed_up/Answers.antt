use Rattle.std.proofs.Common.{◌≡◌, ◌<◌, ◌++◌, ◌∷◌, [], ℕ, List, Option, None, length, get_or, sym, ap, ap₂, ◌∙◌, arith}
use Rattle.std.specs.Prelude.{option_copied}
use Rattle.std.proofs.lemmas.List.{take_more, length-map}
use Rattle.inst_logic.specs.declared.signed.Signed.{Signed}
use Rattle.cdcl_trail.specs.Arena.{clause_at}
use Rattle.cdcl_trail.proofs.ClausesLaws.{by_key}
use Rattle.cdcl_trail.proofs.arena.Arena.closed_up.Goals as goal

pub loop-i-preserved : goal.loop-i-preserved
loop-i-preserved c =
    let s = c.self.inside in
    let xs = c.args.self.now in
    let i = c.loop-i.i in
    let count : length xs ≡ length s.spans.items = ap length (sym c.self.view_is) ∙ length-map s.spans.items (clause_at s.literals.items) in
    let inside : i < length xs = omega (arith, count, c.len-i-end.ensures, s.spans.ok.0) in
    let item : option_copied c.get.result ≡ get_or xs i None = c.get.ensures ∙ sym (by_key xs i) in
    c.in_ok-push.ensures ∙ ap₂ (λ (ys : List (Option (List (Signed ℕ)))) (o : Option (List (Signed ℕ))). ys ++ o ∷ []) c.loop-i.invariant item ∙ sym (take_more xs i None inside)
