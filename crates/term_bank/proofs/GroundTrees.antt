-- A tree is ground, as the bank keeps it, exactly where no variable occurs in it.
use Rattle.std.proofs.Common.{◌≡◌, ℕ, List, [], ◌∷◌, ◌++◌, true, refl, ◌↔◌}
use Rattle.inst_logic.specs.Tree.{Tree, var, app, Trees, none, more}
use Rattle.inst_logic.specs.Substitution.{tree_vars, trees_vars}
use Rattle.inst_logic.proofs.SameLemmas.{and_left, and_right, and_both}
use Rattle.term_bank.specs.Forest.{is_ground, are_ground}

first_empty : (xs ys : List ℕ) → xs ++ ys ≡ [] → xs ≡ []
first_empty [] ys e = refl
first_empty (x ∷ xs) ys e = cc

second_empty : (xs ys : List ℕ) → xs ++ ys ≡ [] → ys ≡ []
second_empty [] ys e = e
second_empty (x ∷ xs) ys e = cc

both_empty : (xs ys : List ℕ) → xs ≡ [] → ys ≡ [] → xs ++ ys ≡ []
both_empty [] ys d e = e
both_empty (x ∷ xs) ys d e = cc

mutual
  without_variables : (t : Tree) → is_ground t ≡ true → tree_vars t ≡ []
  without_variables (var v) h = cc
  without_variables (app s ts) h = all_without_variables ts h

  all_without_variables : (ts : Trees) → are_ground ts ≡ true → trees_vars ts ≡ []
  all_without_variables none h = refl
  all_without_variables (more t ts) h =
      both_empty (tree_vars t) (trees_vars ts) (without_variables t (and_left (is_ground t) (are_ground ts) h)) (all_without_variables ts (and_right (is_ground t) (are_ground ts) h))

mutual
  is_ground_without : (t : Tree) → tree_vars t ≡ [] → is_ground t ≡ true
  is_ground_without (var v) e = cc
  is_ground_without (app s ts) e = are_ground_without ts e

  are_ground_without : (ts : Trees) → trees_vars ts ≡ [] → are_ground ts ≡ true
  are_ground_without none e = refl
  are_ground_without (more t ts) e =
      and_both (is_ground t) (are_ground ts) (is_ground_without t (first_empty (tree_vars t) (trees_vars ts) e)) (are_ground_without ts (second_empty (tree_vars t) (trees_vars ts) e))

pub ground_by_variables : (t : Tree) → (is_ground t ≡ true) ↔ (tree_vars t ≡ [])
ground_by_variables t = (without_variables t, is_ground_without t)
