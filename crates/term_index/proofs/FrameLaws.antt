-- The lists of a walk.
use Rattle.std.proofs.Common.{◌≡◌, ◌<◌, ◌≤◌, ◌+◌, ◌-◌, ℕ, zero, suc, List, [], ◌∷◌, ◌++◌, length, take, drop, get_or, refl, sym, ◌∙◌, ap, ap₂, arith, length-append, inl, inr}
use Rattle.std.proofs.Math.ListN.{get_or-append}
use Rattle.std.proofs.Math.Seq.{get_or-append_seam, drop-cons}
use Rattle.term_index.specs.declared.walk.Cell.{Cell}
use Rattle.term_index.specs.declared.walk.Frame.{Frame}
use Rattle.term_index.specs.Run.{Graph}
use Rattle.term_index.specs.Frames.{no_cell, cell_at, between, list_in, list_of, spot, AreCells}

enough : (args : List ℕ) (cs ds : List Cell) (h : (k : ℕ) → k < length cs → (cell_at cs k).rest ≤ k) (same : (k : ℕ) → k < length cs → cell_at ds k ≡ cell_at cs k)
    → (j k n : ℕ) → n ≤ length cs → n ≤ j → n ≤ k → list_in args ds j n ≡ list_in args cs k n
unfolding list_in
enough args cs ds h same zero zero zero w a b = refl
enough args cs ds h same zero (suc k) zero w a b = refl
enough args cs ds h same (suc j) zero zero w a b = refl
enough args cs ds h same (suc j) (suc k) zero w a b = refl
enough args cs ds h same zero k (suc n) w a b = absurd (omega arith)
enough args cs ds h same (suc j) zero (suc n) w a b = absurd (omega arith)
enough args cs ds h same (suc j) (suc k) (suc n) w a b =
    let o = h n (omega arith) in
    let e = same n (omega arith) in
    ap₂ (λ x r. between args (x.at) (x.end) ++ r) e (ap (λ x. list_in args ds j x.rest) e ∙ enough args cs ds h same j k (cell_at cs n).rest (omega arith) (omega arith) (omega arith))

-- a list by its cell
pub list_cell : (args : List ℕ) (cs : List Cell) → ((k : ℕ) → k < length cs → (cell_at cs k).rest ≤ k) → (k : ℕ) → k < length cs
    → list_of args cs (suc k) ≡ between args (cell_at cs k).at (cell_at cs k).end ++ list_of args cs (cell_at cs k).rest
unfolding list_in
list_cell args cs h k w =
    let o = h k w in
    ap (λ r. between args (cell_at cs k).at (cell_at cs k).end ++ r) (enough args cs cs h (λ j p. refl) k (cell_at cs k).rest (cell_at cs k).rest (omega arith) o (omega arith))

-- the old lists stay
pub list_grown : (args : List ℕ) (cs more : List Cell) → ((k : ℕ) → k < length cs → (cell_at cs k).rest ≤ k) → (n : ℕ) → n ≤ length cs → list_of args (cs ++ more) n ≡ list_of args cs n
list_grown args cs more h n w = enough args cs (cs ++ more) h (λ k p. get_or-append cs more no_cell k p) n n n w (omega arith) (omega arith)

pub between_first : (args : List ℕ) (at end : ℕ) → at < end → end ≤ length args → between args at end ≡ get_or args at 0 ∷ between args (at + 1) end
between_first args at end h w =
    let e : end - at ≡ suc (end - (at + 1)) = omega arith in
    let f : suc at ≡ at + 1 = omega arith in
    ap₂ (λ n xs. take n xs) e (drop-cons args at 0 (omega arith) ∙ ap (λ k. get_or args at 0 ∷ drop k args) f)

pub between_none : (args : List ℕ) (at end : ℕ) → end ≤ at → between args at end ≡ []
between_none args at end h = let e : end - at ≡ 0 = omega arith in ap (λ n. take n (drop at args)) e

-- the frame of the cell that its empty list goes on with
pub settled_same : (g : Graph) (cs : List Cell) (f : Frame) → AreCells g cs → f.end ≤ f.at → 0 < f.rest → f.rest ≤ length cs
    → spot g cs (record { node = f.node; at = (cell_at cs (f.rest - 1)).at; end = (cell_at cs (f.rest - 1)).end; rest = (cell_at cs (f.rest - 1)).rest; cells = f.cells }) ≡ spot g cs f
settled_same g cs f h w p q =
    let k = f.rest - 1 in
    let e : f.rest ≡ suc k = omega arith in
    let both : between g.args (cell_at cs k).at (cell_at cs k).end ++ list_of g.args cs (cell_at cs k).rest ≡ between g.args f.at f.end ++ list_of g.args cs f.rest =
    sym (list_cell g.args cs (λ j b. (h j b).0) k (omega arith)) ∙ ap (list_of g.args cs) (sym e) ∙ ap (λ xs. xs ++ list_of g.args cs f.rest) (sym (between_none g.args f.at f.end w)) in
    λ i. record { node = f.node; todo = (0, both i) }

-- a new cell
pub saved_list : (g : Graph) (cs ds : List Cell) (f : Frame) (n : ℕ) → AreCells g cs → f.rest ≤ length cs → ds ≡ cs ++ record { at = f.at; end = f.end; rest = f.rest } ∷ [] → n ≡ length ds
    → list_of g.args ds n ≡ between g.args f.at f.end ++ list_of g.args cs f.rest
saved_list g cs ds f n h w is e =
    let c : Cell = record { at = f.at; end = f.end; rest = f.rest } in
    let k : n ≡ suc (length cs) = e ∙ ap length is ∙ (let z = length-append cs (c ∷ []) in let y : length (cs ++ c ∷ []) ≡ suc (length cs) = omega arith in y) in
    let here : cell_at (cs ++ c ∷ []) (length cs) ≡ c = get_or-append_seam cs c [] no_cell in
    ap (λ xs. list_of g.args xs n) is ∙ ap (list_of g.args (cs ++ c ∷ [])) k
    ∙ list_cell g.args (cs ++ c ∷ []) (pushed_order cs c (λ j b. (h j b).0) w) (length cs) (let z = length-append cs (c ∷ []) in omega arith)
    ∙ ap (λ x. between g.args x.at x.end ++ list_of g.args (cs ++ c ∷ []) x.rest) here
    ∙ ap (λ xs. between g.args f.at f.end ++ xs) (list_grown g.args cs (c ∷ []) (λ j b. (h j b).0) f.rest w)
  where
    pushed_order : (cs : List Cell) (c : Cell) → ((k : ℕ) → k < length cs → (cell_at cs k).rest ≤ k) → c.rest ≤ length cs → (k : ℕ) → k < length (cs ++ c ∷ []) → (cell_at (cs ++ c ∷ []) k).rest ≤ k
    pushed_order cs c h w k b = elim (Rattle.term_bank.proofs.Nodes.last_or_before k (length cs) (let z = length-append cs (c ∷ []) in omega arith)) [
      | inl p ↦ (let e = ap (λ (x : Cell). x.rest) (get_or-append cs (c ∷ []) no_cell k p) in omega (arith, h k p))
      | inr s ↦ (let e = ap (λ (x : Cell). x.rest) (ap (cell_at (cs ++ c ∷ [])) s ∙ get_or-append_seam cs c [] no_cell) in omega arith)
    ]
