-- The greatest of two numbers, and of the variables of a tree.
use Rattle.std.proofs.Common.{◌≡◌, ℕ, ◌≤◌, max, List, [], ◌++◌, Option, Some, None, Bool, true, false, refl, ap, sym, ◌∙◌, subst, append-nil, arith, ◌⊎◌, inl, inr}
use Rattle.std.specs.Prelude.{is_some, not, ◌&&◌}
use Rattle.std.proofs.lemmas.List.Elements.{All-nil, All-cons, All-append, All-weaker, Contains-append_left, Contains-append_right, Contains-push}
use Rattle.inst_logic.specs.Tree.{Tree, var, app, Trees, none, more}
use Rattle.inst_logic.specs.Substitution.{tree_vars, trees_vars}
use Rattle.term_bank.specs.Forest.{is_ground, are_ground}
use Rattle.term_bank.specs.Greatest.{IsGreatest, greater, greatest_variable, greatest_variables}

pub greater_none : (a : Option ℕ) → greater a None ≡ a
greater_none None = refl
greater_none (Some v) = refl

pub greater_assoc : (a b c : Option ℕ) → greater (greater a b) c ≡ greater a (greater b c)
greater_assoc None b c = refl
greater_assoc (Some v) None c = refl
greater_assoc (Some v) (Some w) None = refl
greater_assoc (Some v) (Some w) (Some x) = ap Some (omega arith)

max_left : (v w : ℕ) → w ≤ v → max v w ≡ v
max_left v w h = omega arith

max_right : (v w : ℕ) → v ≤ w → max v w ≡ w
max_right v w h = omega arith

at_most_or_more : (v w : ℕ) → (w ≤ v) ⊎ (v ≤ w)
at_most_or_more v w = grind arith

append_none : (xs ys : List ℕ) → ys ≡ [] → xs ++ ys ≡ xs
append_none xs ys e = rw e (append-nil xs)

-- the greatest of two lists
pub greatest_append : (vs ws : List ℕ) (a b : Option ℕ) → IsGreatest vs a → IsGreatest ws b → IsGreatest (vs ++ ws) (greater a b)
greatest_append vs ws None b e h = subst (λ (us : List ℕ). IsGreatest (us ++ ws) b) (sym e) h
greatest_append vs ws (Some v) None g e = subst (λ (us : List ℕ). IsGreatest us (Some v)) (sym (append_none vs ws e)) g
greatest_append vs ws (Some v) (Some w) g h = by (at_most_or_more v w)
  where
    by : (w ≤ v) ⊎ (v ≤ w) → IsGreatest (vs ++ ws) (Some (max v w))
    by (inl p) = subst (λ (u : ℕ). IsGreatest (vs ++ ws) (Some u)) (sym (max_left v w p))
        (Contains-append_left vs ws v g.0, All-append (λ u. u ≤ v) vs ws g.1 (All-weaker (λ u. u ≤ w) (λ u. u ≤ v) (λ u k. omega arith) ws h.1))
    by (inr p) = subst (λ (u : ℕ). IsGreatest (vs ++ ws) (Some u)) (sym (max_right v w p))
        (Contains-append_right vs ws w h.0, All-append (λ u. u ≤ w) vs ws (All-weaker (λ u. u ≤ v) (λ u. u ≤ w) (λ u k. omega arith) vs g.1) h.1)

mutual
  pub greatest_is : (t : Tree) → IsGreatest (tree_vars t) (greatest_variable t)
  greatest_is (var v) = (Contains-push [] v, All-cons (λ w. w ≤ v) v [] (omega arith) (All-nil (λ w. w ≤ v)))
  greatest_is (app s ts) = greatest_of_all ts

  pub greatest_of_all : (ts : Trees) → IsGreatest (trees_vars ts) (greatest_variables ts)
  greatest_of_all none = refl
  greatest_of_all (more t ts) = greatest_append (tree_vars t) (trees_vars ts) (greatest_variable t) (greatest_variables ts) (greatest_is t) (greatest_of_all ts)

neither_greater : (a b : Option ℕ) (p q : Bool) → p ≡ not (is_some a) → q ≡ not (is_some b) → (p && q) ≡ not (is_some (greater a b))
neither_greater None b p q d e = rw d e
neither_greater (Some v) None p q d e = rw d refl
neither_greater (Some v) (Some w) p q d e = rw d refl

mutual
  -- a tree is ground where it has no greatest variable
  pub ground_by_greatest : (t : Tree) → is_ground t ≡ not (is_some (greatest_variable t))
  ground_by_greatest (var v) = refl
  ground_by_greatest (app s ts) = all_ground_by_greatest ts

  all_ground_by_greatest : (ts : Trees) → are_ground ts ≡ not (is_some (greatest_variables ts))
  all_ground_by_greatest none = refl
  all_ground_by_greatest (more t ts) = neither_greater (greatest_variable t) (greatest_variables ts) (is_ground t) (are_ground ts) (ground_by_greatest t) (all_ground_by_greatest ts)

twice : (b : Bool) → not (not b) ≡ b
twice true = refl
twice false = refl

-- the test that there is no greatest variable
pub ground_where_none : (t : Tree) (g : Option ℕ) (r : Bool) → g ≡ greatest_variable t → is_some g ≡ not r → is_ground t ≡ r
ground_where_none t g r e test = ground_by_greatest t ∙ ap (λ o. not (is_some o)) (sym e) ∙ ap not test ∙ twice r
