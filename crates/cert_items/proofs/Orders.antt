-- Clauses whose variables are 0, 1, 2 by first occurrence, and the walk that sees it.
use Rattle.std.proofs.Common.{◌≡◌, ℕ, zero, suc, ◌+◌, ◌<◌, ◌≤◌, List, [], ◌∷◌, ◌++◌, inl, inr, refl, sym, ap, ap₂, ◌∙◌, subst, map, length, get_or, nat_eq, ltb, Bool, true, false, None, Some, arith, append_assoc}
use Rattle.std.specs.Prelude.{fold, if◌then◌else◌, ◌||◌}
use Rattle.std.specs.List.{list_any}
use Rattle.std.proofs.lemmas.Bool.Decides.{Decides-eqb, Decides-ltb}
use Rattle.std.proofs.lemmas.List.{length-append, get_or_append_left, get_or_push}
use Rattle.std.proofs.lemmas.List.Folds.{list_any-append}
use Rattle.inst_logic.specs.declared.signed.Signed.{Signed}
use Rattle.inst_logic.specs.declared.symbol.Sym.{Sym}
use Rattle.inst_logic.specs.Tree.{Tree, var, app, of_list}
use Rattle.inst_logic.specs.Lists.{with_item}
use Rattle.inst_logic.specs.Measure.{tree_size, trees_size}
use Rattle.inst_logic.specs.Substitution.{tree_vars, trees_vars, clause_vars}
use Rattle.inst_logic.specs.Clauses.{TreeClause, numbered, order_of}
use Rattle.inst_logic.proofs.Distinct.{distinct_append}
use Rattle.inst_calculus.proofs.Membership.{◌∈◌, all_in, in_left, in_right}
use Rattle.inst_calculus.proofs.Distinct.{in_distinct, items_present, item_at_place, place, place_below}
use Rattle.term_bank.specs.Forest.{Forest, tree_at, clause_at}
use Rattle.term_bank.specs.Greatest.{IsGreatest}
use Rattle.cert_items.specs.Orders.{in_order, ids_vars, ids_size}

-- ---- the numbers below n

abbrev below : ℕ → List ℕ
below zero = []
below (suc n) = below n ++ n ∷ []

length_below : (n : ℕ) → length (below n) ≡ n
length_below zero = refl
length_below (suc n) = let l = length-append (below n) (n ∷ []) in let k = length_below n in omega arith

item_below : (n k : ℕ) → k < n → get_or (below n) k 0 ≡ k
item_below zero k h = absurd (omega arith)
item_below (suc n) k h = by (nat_eq k n) refl (item_below n k)
  where
    by : (b : Bool) → nat_eq k n ≡ b → (k < n → get_or (below n) k 0 ≡ k) → get_or (below n ++ n ∷ []) k 0 ≡ k
    by true e rest = let same : k ≡ n = (Decides-eqb k n).0 e in get_or_push (below n) n 0 k (length_below n ∙ sym same) ∙ sym same
    by false e rest =
        let apart : ¬ (k ≡ n) = λ s. (let t = (Decides-eqb k n).1 s in cc) in
        let less : k < n = omega (arith, apart) in
        get_or_append_left (below n) (n ∷ []) 0 k (let l = length_below n in omega arith) ∙ rest less

in_below : (n v : ℕ) → v < n → v ∈ below n
in_below zero v h = absurd (omega arith)
in_below (suc n) v h = by (nat_eq v n) refl (in_below n v)
  where
    by : (b : Bool) → nat_eq v n ≡ b → (v < n → v ∈ below n) → v ∈ (below n ++ n ∷ [])
    by true e rest = in_right v (below n) (n ∷ []) (inl ((Decides-eqb v n).0 e))
    by false e rest =
        let apart : ¬ (v ≡ n) = λ s. (let t = (Decides-eqb v n).1 s in cc) in
        in_left v (below n) (n ∷ []) (rest (omega (arith, apart)))

none_below : (n m : ℕ) → n ≤ m → list_any (λ x. nat_eq x m) (below n) ≡ false
none_below zero m h = refl
none_below (suc n) m h =
    let apart : nat_eq n m ≡ false = by (nat_eq n m) refl in
    list_any-append (λ x. nat_eq x m) (below n) (n ∷ []) ∙ ap₂ (λ a b. a || (b || false)) (none_below n m (omega arith)) apart
  where
    by : (b : Bool) → nat_eq n m ≡ b → b ≡ false
    by true e = absurd (let s = (Decides-eqb n m).0 e in omega arith)
    by false e = refl

one_above : (n : ℕ) → with_item nat_eq (below n) n ≡ below (suc n)
one_above n = ap (λ (b : Bool). if b then below n else below n ++ n ∷ []) (none_below n n (omega arith))

-- ---- variables in order

-- numbers that are in order behind those below n leave the numbers below some m
counted : (vs : List ℕ) (n : ℕ) → in_order n vs ≡ true → (m : ℕ) × (fold (with_item nat_eq) (below n) vs ≡ below m)
counted [] n h = (n, refl)
counted (v ∷ vs) n h = by (ltb v n) refl (nat_eq v n) refl (counted vs n) (counted vs (suc n)) h
  where
    by : (b : Bool) → ltb v n ≡ b → (e : Bool) → nat_eq v n ≡ e
        → (in_order n vs ≡ true → (m : ℕ) × (fold (with_item nat_eq) (below n) vs ≡ below m)) → (in_order (suc n) vs ≡ true → (m : ℕ) × (fold (with_item nat_eq) (below (suc n)) vs ≡ below m)) → (if b then in_order n vs else if e then in_order (suc n) vs else false) ≡ true
        → (m : ℕ) × (fold (with_item nat_eq) (with_item nat_eq (below n) v) vs ≡ below m)
    by true p e q same more k =
        let rest = same k in
        let seen : with_item nat_eq (below n) v ≡ below n = items_present nat_eq Decides-eqb (below n) (v ∷ []) (λ y i. subst (λ (z : ℕ). z ∈ below n) (sym (only y i)) (in_below n v ((Decides-ltb v n).0 p))) in
        (rest.0, ap (λ (d : List ℕ). fold (with_item nat_eq) d vs) seen ∙ rest.1)
      where
        only : (y : ℕ) → y ∈ (v ∷ []) → y ≡ v
        only y (inl e) = e
        only y (inr i) = absurd i
    by false p true q same more k =
        let rest = more k in
        let is : v ≡ n = (Decides-eqb v n).0 q in
        (rest.0, ap (λ (d : List ℕ). fold (with_item nat_eq) d vs) (ap (with_item nat_eq (below n)) is ∙ one_above n) ∙ rest.1)
    by false p false q same more k = absurd (cc)

-- then each variable has its own number
pub own_numbers : (c : TreeClause) → in_order 0 (clause_vars c) ≡ true → (v : ℕ) → v ∈ clause_vars c → numbered (order_of c) v ≡ var v
own_numbers c h v i =
    let all = counted (clause_vars c) 0 h in
    let order : order_of c ≡ below all.0 = sym (distinct_append nat_eq Decides-eqb [] (clause_vars c)) ∙ all.1 in
    let j : v ∈ order_of c = in_distinct nat_eq Decides-eqb v (clause_vars c) i in
    let less = place_below v (order_of c) j in
    let n = ap length order in
    let l = length_below all.0 in
    let at : get_or (below all.0) (place v (order_of c)) 0 ≡ v = ap (λ (vs : List ℕ). get_or vs (place v (order_of c)) 0) (sym order) ∙ item_at_place v (order_of c) j in
    ap var (sym (item_below all.0 (place v (order_of c)) (omega arith)) ∙ at)

-- ---- the walk

skipped : (n : ℕ) (vs rest : List ℕ) → ((v : ℕ) → v ∈ vs → v < n) → in_order n (vs ++ rest) ≡ in_order n rest
skipped n [] rest h = refl
skipped n (v ∷ vs) rest h =
    ap (λ (b : Bool). if b then in_order n (vs ++ rest) else if nat_eq v n then in_order (suc n) (vs ++ rest) else false) ((Decides-ltb v n).1 (h v (inl refl)))
    ∙ skipped n vs rest (λ w i. h w (inr i))

-- a tree without variables
pub no_variable : (f : Forest) (n id : ℕ) (rest : List ℕ) → IsGreatest (tree_vars (tree_at f id)) None → in_order n (ids_vars f rest) ≡ true → in_order n (ids_vars f (id ∷ rest)) ≡ true
no_variable f n id rest none h = ap (λ (vs : List ℕ). in_order n (vs ++ ids_vars f rest)) none ∙ h

-- a tree whose variables have been met
pub met_before : (f : Forest) (n id g : ℕ) (rest : List ℕ) → IsGreatest (tree_vars (tree_at f id)) (Some g) → g < n → in_order n (ids_vars f rest) ≡ true → in_order n (ids_vars f (id ∷ rest)) ≡ true
met_before f n id g rest greatest less h =
    skipped n (tree_vars (tree_at f id)) (ids_vars f rest) (λ v i. (let k = all_in (λ w. w ≤ g) (tree_vars (tree_at f id)) greatest.1 v i in omega (arith, k, less))) ∙ h

joined_vars : (f : Forest) (ids rest : List ℕ) → ids_vars f (ids ++ rest) ≡ trees_vars (of_list (map (tree_at f) ids)) ++ ids_vars f rest
joined_vars f [] rest = refl
joined_vars f (id ∷ ids) rest =
    ap (λ vs. tree_vars (tree_at f id) ++ vs) (joined_vars f ids rest)
    ∙ sym (append_assoc (tree_vars (tree_at f id)) (trees_vars (of_list (map (tree_at f) ids))) (ids_vars f rest))

-- an application, whose arguments are met in its place
pub opened : (f : Forest) (n id : ℕ) (args rest : List ℕ) (s : Sym) → tree_at f id ≡ app s (of_list (map (tree_at f) args)) → in_order n (ids_vars f (args ++ rest)) ≡ true → in_order n (ids_vars f (id ∷ rest)) ≡ true
opened f n id args rest s is h = ap (λ (t : Tree). in_order n (tree_vars t ++ ids_vars f rest)) is ∙ ap (in_order n) (sym (joined_vars f args rest)) ∙ h

joined_size : (f : Forest) (ids rest : List ℕ) → ids_size f (ids ++ rest) ≡ trees_size (of_list (map (tree_at f) ids)) + ids_size f rest
joined_size f [] rest = omega arith
joined_size f (id ∷ ids) rest = let k = joined_size f ids rest in omega arith

pub opened_size : (f : Forest) (id : ℕ) (args rest : List ℕ) (s : Sym) → tree_at f id ≡ app s (of_list (map (tree_at f) args)) → ids_size f (args ++ rest) + 1 ≤ ids_size f (id ∷ rest)
opened_size f id args rest s is = let k = joined_size f args rest in let t = ap tree_size is in omega (arith, k, t)

some_size : (t : Tree) → 1 ≤ tree_size t
some_size (var v) = omega arith
some_size (app g us) = omega arith

-- a node that is not opened
pub passed_size : (f : Forest) (id : ℕ) (rest : List ℕ) → ids_size f rest + 1 ≤ ids_size f (id ∷ rest)
passed_size f id rest = let k = some_size (tree_at f id) in omega (arith, k)

-- the atoms of a clause
pub clause_ids : (f : Forest) (c : List (Signed ℕ)) → ids_vars f (map (λ l. l.atom) c) ≡ clause_vars (clause_at f c)
clause_ids f [] = refl
clause_ids f (l ∷ c) = ap (λ vs. tree_vars (tree_at f l.atom) ++ vs) (clause_ids f c)
