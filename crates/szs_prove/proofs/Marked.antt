-- Some of the items of a rising list, in their order.
use Rattle.std.proofs.Common.{◌≡◌, ℕ, ◌+◌, ◌<◌, ◌⊎◌, inl, inr, List, [], ◌∷◌, ◌++◌, sym, ap, ◌∙◌, subst as transport, length, take, get_or, arith}
use Rattle.std.specs.Prelude.{All, Contains}
use Rattle.std.specs.List.Sorted.{IsStrictlyIncreasing}
use Rattle.std.proofs.Math.ListN.{get_or-append}
use Rattle.std.proofs.Math.Seq.{get_or-append_seam}
use Rattle.std.proofs.Math.Nat.{eq-or-lt_of_le}
use Rattle.std.proofs.lemmas.List.{get_or-take, get_or_default, length-take, length_push, take_more}
use Rattle.std.proofs.lemmas.List.Kept.{AllPairs-from_increasing}
use Rattle.inst_logic.proofs.Items.{Contains-take, Contains-take_more}
use Rattle.inst_logic.proofs.Membership.{◌∈◌, contains_in, in_contains, all_in, in_all, get_or_in, in_push, in_right}

increasing_push : (xs : List ℕ) (y : ℕ) → IsStrictlyIncreasing xs → ((x : ℕ) → x ∈ xs → x < y) → IsStrictlyIncreasing (xs ++ y ∷ [])
increasing_push xs y h below k l = go (eq-or-lt_of_le (omega (arith, length_push xs y, l)))
  where
    go : (k + 1 ≡ length xs) ⊎ (k + 1 < length xs) → get_or (xs ++ y ∷ []) k 0 < get_or (xs ++ y ∷ []) (k + 1) 0
    go (inr inside) =
        let first = get_or-append xs (y ∷ []) 0 k (omega (arith, inside)) in
        let second = get_or-append xs (y ∷ []) 0 (k + 1) inside in
        let less = h k inside in
        omega (arith, first, second, less)
    go (inl e) =
        let first = get_or-append xs (y ∷ []) 0 k (omega (arith, e)) in
        let last : get_or (xs ++ y ∷ []) (k + 1) 0 ≡ y = ap (λ n. get_or (xs ++ y ∷ []) n 0) e ∙ get_or-append_seam xs y [] 0 in
        let less = below (get_or xs k 0) (get_or_in xs k 0 (omega (arith, e))) in
        omega (arith, first, last, less)

-- some of the first items, which rise
pub record IsPartOfFront (places : List ℕ) (i : ℕ) (some : List ℕ) : Type 0 where
  pub rising : IsStrictlyIncreasing some
  pub within : All (Contains (take i places)) some

pub nothing_yet : (places : List ℕ) → IsPartOfFront places 0 []
nothing_yet places = record { rising = λ k l. absurd (omega arith); within = in_all (Contains (take 0 places)) [] (λ x i. absurd i) }

module _ (places : List ℕ) (rising : IsStrictlyIncreasing places) (i d : ℕ) (inside : i < length places) (some : List ℕ) (part : IsPartOfFront places i some) where
  earlier : (x : ℕ) → x ∈ some → x ∈ take i places
  earlier x j = contains_in x (take i places) (all_in (Contains (take i places)) some part.within x j)

  below : (x : ℕ) → x ∈ some → x < get_or places i d
  below x j =
      let (k, before, e) = in_contains x (take i places) (earlier x j) in
      let early : k < i = omega (arith, before, length-take i places) in
      let same : get_or places k x ≡ x = sym (get_or-take i places k x early) ∙ e in
      let less = AllPairs-from_increasing places rising k i x early inside in
      let here : get_or places i x ≡ get_or places i d = get_or_default places i x d inside in
      omega (arith, same, less, here)

  pub passed_by : IsPartOfFront places (i + 1) some
  passed_by = record { rising = part.rising; within = in_all (Contains (take (i + 1) places)) some (λ x j. Contains-take_more places i (i + 1) x (omega arith) (in_contains x (take i places) (earlier x j))) }

  pub taken : IsPartOfFront places (i + 1) (some ++ get_or places i d ∷ [])
  taken = record {
    rising = increasing_push some (get_or places i d) part.rising below;
    within = in_all (Contains (take (i + 1) places)) (some ++ get_or places i d ∷ []) (λ x j. elim (in_push x (get_or places i d) some j) [
      | inl k ↦ Contains-take_more places i (i + 1) x (omega arith) (in_contains x (take i places) (earlier x k))
      | inr e ↦ in_contains x (take (i + 1) places) (transport (λ xs. x ∈ xs) (sym (take_more places i d inside)) (in_right x (take i places) (get_or places i d ∷ []) (inl e)))
    ]);
  }

  pub taken_or_not : (place : ℕ) (new : List ℕ) → place ≡ get_or places i d → (new ≡ some) ⊎ (new ≡ some ++ place ∷ []) → IsPartOfFront places (i + 1) new
  taken_or_not place new e (inl same) = transport (IsPartOfFront places (i + 1)) (sym same) passed_by
  taken_or_not place new e (inr more) = transport (IsPartOfFront places (i + 1)) (sym (more ∙ ap (λ x. some ++ x ∷ []) e)) taken

-- what is some of all items
pub all_within : (places : List ℕ) (i : ℕ) (some : List ℕ) → IsPartOfFront places i some → All (Contains places) some
all_within places i some part = in_all (Contains places) some (λ x j. Contains-take places i x (all_in (Contains (take i places)) some part.within x j))
