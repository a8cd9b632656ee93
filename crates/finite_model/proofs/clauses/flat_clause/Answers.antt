use Rattle.std.proofs.Common.{◌≡◌, ap, ◌∙◌, [], ◌++◌, map}
use Rattle.inst_logic.specs.View.{tree}
use Rattle.inst_logic.proofs.Outcomes.{if_ok}
use Rattle.finite_model.specs.Flattening.{flat_clause}
use Rattle.finite_model.specs.Placing.{placed_clause, placed_literals, note_denials}
use Rattle.finite_model.proofs.Notes.{walked_is_flat}
use Rattle.finite_model.proofs.clauses.flat_clause.Goals as goal

pub returns : goal.returns
returns c =
    let ns = c.args.numbering.now in
    let none_of : map tree c.new-notes.result.keys ≡ [] = ap (map tree) c.new-notes.ensures.empty in
    let notes : map tree c.own_literals.new.notes.keys ≡ placed_clause [] c.args.c.now = c.in_ok-own.ensures.notes ∙ ap (λ xs. placed_clause xs c.args.c.now) none_of in
    let denials : c.in_ok-denials.denials ≡ note_denials ns 0 (placed_clause [] c.args.c.now) = c.in_ok-denials.ensures ∙ ap (note_denials ns 0) notes in
    let own : c.in_ok-own.own ≡ placed_literals ns [] c.args.c.now = c.in_ok-own.ensures.own ∙ ap (λ xs. placed_literals ns xs c.args.c.now) none_of in
    if_ok (λ d. d ≡ c.in_ok-denials.denials ++ c.in_ok-own.own) (λ d. d ≡ flat_clause ns c.args.c.now) c.concatenation.result c.concatenation.ensures
    (λ d e. e ∙ (λ i. denials i ++ own i) ∙ walked_is_flat ns c.args.c.now)
