-- Literals with the ids of their atoms, one by one.
use Rattle.std.proofs.Common.{◌≡◌, ℕ, ◌+◌, ◌<◌, List, [], ◌∷◌, ◌++◌, sym, ap, ◌∙◌, map, length, take, get_or, nat_eq, Some}
use Rattle.std.specs.Prelude.{slice_get}
use Rattle.std.proofs.lemmas.Bool.Decides.{Decides-eqb}
use Rattle.std.proofs.lemmas.List.{take_more, map_push}
use Rattle.std.proofs.lemmas.Option.{get_or_from_slice_get}
use Rattle.inst_logic.specs.declared.signed.Signed.{Signed}
use Rattle.inst_logic.specs.Lists.{distinct, with_item}
use Rattle.inst_logic.specs.Equal.{signed_eq}
use Rattle.inst_logic.proofs.SameLemmas.{signed_eq_decides}
use Rattle.inst_logic.proofs.Distinct.{distinct_more}
use Rattle.ground_abs.specs.Numbers.{named}
use Rattle.instgen_loop.specs.Refuting.{ground_clause}

pub one_more_literal : (ids : List ℕ) (ls ks ns : List (Signed ℕ)) (i : ℕ) (d k : Signed ℕ) → i < length ls → k ≡ named ids (get_or ls i d) → ks ≡ distinct (signed_eq nat_eq) (map (named ids) (take i ls))
    → ns ≡ with_item (signed_eq nat_eq) ks k → ns ≡ distinct (signed_eq nat_eq) (map (named ids) (take (i + 1) ls))
one_more_literal ids ls ks ns i d k within name before added =
    let l : Signed ℕ = get_or ls i d in
    let more : take (i + 1) ls ≡ take i ls ++ l ∷ [] = take_more ls i d within in
    let named_more : map (named ids) (take (i + 1) ls) ≡ map (named ids) (take i ls) ++ named ids l ∷ [] = ap (map (named ids)) more ∙ map_push (named ids) (take i ls) l in
    added ∙ ap (λ (zs : List (Signed ℕ)). with_item (signed_eq nat_eq) zs k) before ∙ ap (with_item (signed_eq nat_eq) (distinct (signed_eq nat_eq) (map (named ids) (take i ls)))) name
    ∙ sym (distinct_more (signed_eq nat_eq) (signed_eq_decides nat_eq Decides-eqb) (map (named ids) (take i ls)) (named ids l)) ∙ ap (distinct (signed_eq nat_eq)) (sym named_more)

pub one_more_clause : (ids : List ℕ) (cs gs hs : List (List (Signed ℕ))) (i : ℕ) (c g : List (Signed ℕ)) → i < length cs → slice_get cs i ≡ Some c → g ≡ ground_clause ids c → gs ≡ map (ground_clause ids) (take i cs) → hs ≡ gs ++ g ∷ []
    → hs ≡ map (ground_clause ids) (take (i + 1) cs)
one_more_clause ids cs gs hs i c g within at same before pushed =
    let more : take (i + 1) cs ≡ take i cs ++ c ∷ [] = take_more cs i c within ∙ ap (λ (d : List (Signed ℕ)). take i cs ++ d ∷ []) (get_or_from_slice_get cs i c c at) in
    pushed ∙ ap (λ (ds : List (List (Signed ℕ))). ds ++ g ∷ []) before ∙ ap (λ (d : List (Signed ℕ)). map (ground_clause ids) (take i cs) ++ d ∷ []) same
    ∙ sym (ap (map (ground_clause ids)) more ∙ map_push (ground_clause ids) (take i cs) c)
