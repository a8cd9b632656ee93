-- Items of lists by their places, under the name by which proofs cite them. Crates above cite these laws.
use Rattle.std.proofs.Common.{ℕ, ◌+◌, ◌<◌, List, length, take, get_or, sym, subst}
use Rattle.std.specs.Prelude.{All}
use Rattle.std.proofs.lemmas.List.{take_more}
use Rattle.std.proofs.lemmas.List.Elements.{All-push}
pub use Rattle.inst_logic.proofs.Items.{slice_get_set, slice_get_set_other, slice_get_append, slice_get_last, slice_get_push, slice_get_take, take_slice_get, take_of_append, take_whole, take_of_take, All-from_slice_get, All-slice_get, All-from_contained, slice_get_contains as Contains-slice_get, slice_get-Contains, Contains-take_more, Contains-take}

-- one item more of which it holds
pub all_more : {X : Type 0} (P : X → Type 0) (xs : List X) (i : ℕ) (d : X) → i < length xs → All P (take i xs) → P (get_or xs i d) → All P (take (i + 1) xs)
all_more P xs i d h before here = subst (All P) (sym (take_more xs i d h)) (All-push P (take i xs) (get_or xs i d) before here)
