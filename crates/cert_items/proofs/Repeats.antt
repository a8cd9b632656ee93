-- Lists of literals in which each one stands once.
use Rattle.std.proofs.Common.{◌≡◌, ℕ, List, [], ◌∷◌, ◌++◌, sym, ap, ◌∙◌, Bool, false}
use Rattle.std.specs.Prelude.{if◌then◌else◌}
use Rattle.std.specs.List.{list_any}
use Rattle.inst_logic.specs.declared.signed.Signed.{Signed}
use Rattle.inst_logic.specs.Lists.{distinct, with_item}
use Rattle.inst_logic.proofs.Distinct.{distinct_more}
use Rattle.clause_form.specs.Literals.{id_eq}
use Rattle.clause_form.proofs.Assembly.{id_eq_decides}

-- one item more than the first ones, which stand once, where it is none of these
pub one_more : (xs ys : List (Signed ℕ)) (y : Signed ℕ) → ys ≡ xs ++ y ∷ [] → distinct id_eq xs ≡ xs → list_any (λ x. id_eq x y) xs ≡ false → distinct id_eq ys ≡ ys
one_more xs ys y more once any =
    ap (distinct id_eq) more ∙ distinct_more id_eq id_eq_decides xs y ∙ ap (λ d. with_item id_eq d y) once ∙ ap (λ (c : Bool). if c then xs else xs ++ y ∷ []) any ∙ sym more
