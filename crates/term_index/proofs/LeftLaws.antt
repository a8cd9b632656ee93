-- A step down the tree by the next label of an atom.
use Rattle.std.proofs.Common.{◌≡◌, ◌<◌, ◌+◌, ℕ, suc, List, [], ◌∷◌, ◌++◌, length, map, reverse, Option, Some, None, refl, sym, ◌∙◌, ap, ap₂, subst, arith, append_assoc, All}
use Rattle.std.proofs.lemmas.List.Elements.{All-append, All-head, All-tail, All-cons, All-nil, All-pop, All-weaker}
use Rattle.std.specs.Prelude.{option_map}
use Rattle.inst_logic.specs.Tree.{Tree, var, app, Trees, none, more, of_list, to_list}
use Rattle.inst_logic.specs.Measure.{tree_size, trees_size}
use Rattle.term_bank.specs.Forest.{Forest, tree_at, number_of, symbol_at, arguments_of, symbol_of}
use Rattle.term_index.specs.declared.label.Label.{Label}
use Rattle.term_index.specs.declared.node.Edge.{Edge}
use Rattle.term_index.specs.Labels.{label_of, labels, all_labels}
use Rattle.term_index.specs.Numbered.{IsNumbered, AreNumbered, IsKnown}
use Rattle.term_index.specs.Paths.{IsChild, Leads}
use Rattle.term_index.specs.Left.{left_labels, left_size, AreLeftNumbered, IsIndexed}
use Rattle.term_index.proofs.PathLaws.{leads_split, leads_once}

module _ (f : Forest) where
  pub left_labels-push : (xs : List ℕ) (x : ℕ) → left_labels f (xs ++ x ∷ []) ≡ labels f (tree_at f x) ++ left_labels f xs
  left_labels-push [] x = sym (Rattle.std.proofs.Common.append-nil (labels f (tree_at f x)))
  left_labels-push (y ∷ xs) x = ap (λ ls. ls ++ labels f (tree_at f y)) (left_labels-push xs x) ∙ append_assoc (labels f (tree_at f x)) (left_labels f xs) (labels f (tree_at f y))

  pub left_size-push : (xs : List ℕ) (x : ℕ) → left_size f (xs ++ x ∷ []) ≡ tree_size (tree_at f x) + left_size f xs
  left_size-push [] x = omega arith
  left_size-push (y ∷ xs) x = omega (arith, left_size-push xs x)

  pub numbered_pushed : (xs : List ℕ) (x : ℕ) → AreLeftNumbered f (xs ++ x ∷ []) → AreLeftNumbered f xs × IsNumbered f (tree_at f x)
  numbered_pushed [] x h = h
  numbered_pushed (y ∷ xs) x h = let r = numbered_pushed xs x h.0 in ((r.0, h.1), r.1)

  pub push_numbered : (xs : List ℕ) (x : ℕ) → AreLeftNumbered f xs → IsNumbered f (tree_at f x) → AreLeftNumbered f (xs ++ x ∷ [])
  push_numbered [] x h k = (tt, k)
  push_numbered (y ∷ xs) x h k = (push_numbered xs x h.0 k, h.1)

  reverse_more : (x : ℕ) (xs ys : List ℕ) → ys ++ reverse (x ∷ xs) ≡ (ys ++ reverse xs) ++ x ∷ []
  reverse_more x xs ys = ap (λ zs. ys ++ zs) (reverse_cons x xs) ∙ sym (append_assoc ys (reverse xs) (x ∷ []))
    where
      reverse_cons : (x : ℕ) (xs : List ℕ) → reverse (x ∷ xs) ≡ reverse xs ++ x ∷ []
      reverse_cons x xs = Rattle.std.proofs.lemmas.Grind.reverse_onto xs x []

  pub left_labels-reverse : (xs args : List ℕ) → left_labels f (xs ++ reverse args) ≡ all_labels f (of_list (map (tree_at f) args)) ++ left_labels f xs
  left_labels-reverse xs [] = ap (left_labels f) (Rattle.std.proofs.Common.append-nil xs)
  left_labels-reverse xs (a ∷ args) =
      ap (left_labels f) (reverse_more a args xs) ∙ left_labels-push (xs ++ reverse args) a
      ∙ ap (λ ls. labels f (tree_at f a) ++ ls) (left_labels-reverse xs args)
      ∙ sym (append_assoc (labels f (tree_at f a)) (all_labels f (of_list (map (tree_at f) args))) (left_labels f xs))

  pub left_size-reverse : (xs args : List ℕ) → left_size f (xs ++ reverse args) ≡ trees_size (of_list (map (tree_at f) args)) + left_size f xs
  left_size-reverse xs [] = omega (arith, ap (left_size f) (Rattle.std.proofs.Common.append-nil xs))
  left_size-reverse xs (a ∷ args) =
      let e = ap (left_size f) (reverse_more a args xs) in
      omega (arith, e, left_size-push (xs ++ reverse args) a, left_size-reverse xs args)

  pub numbered_reversed : (xs args : List ℕ) → AreLeftNumbered f (xs ++ reverse args) → AreLeftNumbered f xs × AreNumbered f (of_list (map (tree_at f) args))
  numbered_reversed xs [] h = (subst (AreLeftNumbered f) (Rattle.std.proofs.Common.append-nil xs) h, tt)
  numbered_reversed xs (a ∷ args) h =
      let k = numbered_pushed (xs ++ reverse args) a (subst (AreLeftNumbered f) (reverse_more a args xs) h) in
      let r = numbered_reversed xs args k.0 in
      (r.0, (k.1, r.1))

  pub All_reversed : (P : ℕ → Type 0) (xs args : List ℕ) → All P xs → All P args → All P (xs ++ reverse args)
  All_reversed P xs [] h k = subst (All P) (sym (Rattle.std.proofs.Common.append-nil xs)) h
  All_reversed P xs (a ∷ args) h k =
      subst (All P) (sym (reverse_more a args xs))
      (All-append P (xs ++ reverse args) (a ∷ []) (All_reversed P xs args h (All-tail P a args k)) (All-cons P a [] (All-head P a args k) (All-nil P)))

  of_to_list : (ts : Trees) → of_list (to_list ts) ≡ ts
  of_to_list none = refl
  of_to_list (more t ts) = ap (more t) (of_to_list ts)

  -- a tree by its root and its arguments
  pub labels_split : (t : Tree) → labels f t ≡ label_of f t ∷ all_labels f (of_list (arguments_of t))
  labels_split (var v) = refl
  labels_split (app s ts) = ap (λ xs. label_of f (app s ts) ∷ all_labels f xs) (sym (of_to_list ts))

  pub size_split : (t : Tree) → tree_size t ≡ trees_size (of_list (arguments_of t)) + 1
  size_split (var v) = refl
  size_split (app s ts) = ap (λ xs. trees_size xs + 1) (sym (of_to_list ts))

  pub numbered_split : (t : Tree) → ((n : ℕ) → Some n ≡ option_map (number_of f.symbols) (symbol_of t) → (n < length f.symbols) × (Some (symbol_at f.symbols n) ≡ symbol_of t))
      → AreNumbered f (of_list (arguments_of t)) → IsNumbered f t
  numbered_split (var v) h k = tt
  numbered_split (app s ts) h k = let r = h (number_of f.symbols s) refl in (r.0, (let e : symbol_at f.symbols (number_of f.symbols s) ≡ s = cc in e), subst (AreNumbered f) (of_to_list ts) k)

-- the labels that are left after one is passed
pub left_on : (f : Forest) (all done : List Label) (id : ℕ) (rest args : List ℕ) → map (tree_at f) args ≡ arguments_of (tree_at f id) → done ++ left_labels f (rest ++ id ∷ []) ≡ all
    → (done ++ label_of f (tree_at f id) ∷ []) ++ left_labels f (rest ++ reverse args) ≡ all
left_on f all done id rest args is whole =
    append_assoc done (label_of f (tree_at f id) ∷ []) (left_labels f (rest ++ reverse args))
    ∙ ap (λ ls. done ++ (label_of f (tree_at f id) ∷ ls)) (left_labels-reverse f rest args ∙ ap (λ ts. all_labels f (of_list ts) ++ left_labels f rest) is)
    ∙ ap (λ ls. done ++ (ls ++ left_labels f rest)) (sym (labels_split f (tree_at f id)))
    ∙ ap (λ ls. done ++ ls) (sym (left_labels-push f rest id))
    ∙ whole

-- no step down, and the atom leads nowhere
pub leads_nowhere : (f : Forest) (es : List Edge) → IsIndexed es → (all done : List Label) (n id : ℕ) (rest : List ℕ) → ((c : ℕ) → ¬ (IsChild es n (label_of f (tree_at f id)) c)) → Leads es 0 done n
    → done ++ left_labels f (rest ++ id ∷ []) ≡ all → (m : ℕ) → ¬ (Leads es 0 all m)
leads_nowhere f es once all done n id rest nowhere leads whole m h =
    let tail = left_labels f rest in
    let t = tree_at f id in
    let split : all ≡ done ++ (label_of f t ∷ (all_labels f (of_list (arguments_of t)) ++ tail)) =
    sym whole ∙ ap (λ ls. done ++ ls) (left_labels-push f rest id ∙ ap (λ ls. ls ++ tail) (labels_split f t)) in
    let s = leads_split es 0 m done (label_of f t ∷ (all_labels f (of_list (arguments_of t)) ++ tail)) (subst (λ ls. Leads es 0 ls m) split h) in
    let same : n ≡ s.0 = leads_once es once 0 done n s.0 leads s.1 in
    nowhere s.2.0 (subst (λ x. IsChild es x (label_of f t) s.2.0) (sym same) s.2.1)

pub smaller_left : (f : Forest) (id : ℕ) (rest args : List ℕ) → map (tree_at f) args ≡ arguments_of (tree_at f id) → left_size f (rest ++ reverse args) < left_size f (rest ++ id ∷ [])
smaller_left f id rest args is =
    let x = left_size-push f rest id in
    let y = left_size-reverse f rest args in
    let z = size_split f (tree_at f id) in
    let w = ap (λ ts. trees_size (of_list ts)) is in
    omega (arith, x, y, z, w)

pub numbered_on : (f : Forest) (id : ℕ) (rest args : List ℕ) → map (tree_at f) args ≡ arguments_of (tree_at f id) → IsKnown f (tree_at f id)
    → AreLeftNumbered f (rest ++ reverse args) → AreLeftNumbered f (rest ++ id ∷ [])
numbered_on f id rest args is h k =
    let r = numbered_reversed f rest args k in
    push_numbered f rest id r.0 (numbered_split f (tree_at f id) h (subst (λ ts. AreNumbered f (of_list ts)) is r.1))

-- the ids that are left after a step are ids
pub ids_on : (f : Forest) (id : ℕ) (rest args : List ℕ) → All (λ i. i < length f.trees) (rest ++ id ∷ []) → All (λ i. i < id) args → All (λ i. i < length f.trees) (rest ++ reverse args)
ids_on f id rest args h k =
    let P : ℕ → Type 0 = λ i. i < length f.trees in
    let r = All-pop P (rest ++ id ∷ []) rest (Some id) refl h in
    All_reversed f P rest args r.0 (All-weaker (λ i. i < id) P (λ x p. omega (arith, p, r.1)) args k)
