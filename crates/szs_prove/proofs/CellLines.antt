-- The lines of the cells, one after another.
use Rattle.std.proofs.Common.{◌≡◌, ℕ, ◌+◌, ◌<◌, List, [], ◌∷◌, ◌++◌, length, take, get_or, sym, ap, ◌∙◌, Some}
use Rattle.std.specs.Prelude.{slice_get}
use Rattle.std.specs.List.{flat_map}
use Rattle.std.proofs.lemmas.List.{flat_map_more, take_more}
use Rattle.std.proofs.lemmas.Option.{slice_get_within, get_or_from_slice_get}
use Rattle.finite_model.specs.declared.tables.Table.{Table}
use Rattle.finite_model.specs.Filled.{all_arguments}
use Rattle.finite_model.specs.Reading.{IsRow}
use Rattle.finite_model.specs.Tables.{place_after}
use Rattle.szs_prove.specs.TableTexts.{cell_line, line_at}

-- one more piece
pub piece_written : {A : Type 0} (line : A → List ℕ) (items : List A) (i : ℕ) (x : A) (old mid new : List ℕ) → slice_get items i ≡ Some x
    → mid ≡ old ++ flat_map line (take i items) → new ≡ mid ++ line x → new ≡ old ++ flat_map line (take (i + 1) items)
piece_written line items i x old mid new at before here =
    let within : i < length items = slice_get_within items i x at in
    let one_more : take (i + 1) items ≡ take i items ++ x ∷ [] = take_more items i x within ∙ ap (λ y. take i items ++ y ∷ []) (get_or_from_slice_get items i x x at) in
    here ∙ ap (λ bs. bs ++ line x) before ∙ flat_map_more line old (take i items) x ∙ ap (λ ys. old ++ flat_map line ys) (sym one_more)

-- the line of the cell at the arguments that stand at its place
pub cell_written : (k : ℕ) (t : Table) (row : ℕ) (es read cells old mid new : List ℕ) → IsRow k t.sym.arity row es → read ≡ es → cells ≡ t.cells
    → slice_get (all_arguments k (length es)) (place_after k 0 es) ≡ Some es → mid ≡ old ++ flat_map (line_at k t) (take row (all_arguments k t.sym.arity))
    → new ≡ mid ++ cell_line t.sym.kind t.sym read (get_or cells row 0) → new ≡ old ++ flat_map (line_at k t) (take (row + 1) (all_arguments k t.sym.arity))
cell_written k t row es read cells old mid new h same same_cells stands before here =
    let at : slice_get (all_arguments k t.sym.arity) row ≡ Some es =
    ap (λ n. slice_get (all_arguments k n) row) (sym h.count) ∙ ap (λ p. slice_get (all_arguments k (length es)) p) (sym h.place) ∙ stands in
    let line : cell_line t.sym.kind t.sym read (get_or cells row 0) ≡ line_at k t es = λ i. cell_line t.sym.kind t.sym (same i) (get_or (same_cells i) (sym h.place i) 0) in
    piece_written (line_at k t) (all_arguments k t.sym.arity) row es old mid new at before (here ∙ ap (λ bs. mid ++ bs) line)
