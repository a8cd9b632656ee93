-- The nodes of a query, copied one after the other.
use Rattle.std.proofs.Common.{◌≡◌, ◌<◌, ◌≤◌, ◌+◌, ◌-◌, ℕ, zero, suc, List, [], ◌∷◌, ◌++◌, length, map, take, drop, get_or, Bool, true, false, nat_eq, refl, sym, ◌∙◌, ap, ap₂, subst, arith, All, append_assoc, length-append, inl, inr}
use Rattle.std.specs.Prelude.{if◌then◌else◌}
use Rattle.std.specs.List.{list_any, position_or_len}
use Rattle.std.proofs.Math.ListN.{get_or-append}
use Rattle.std.proofs.Math.Seq.{get_or-append_seam}
use Rattle.std.proofs.lemmas.Bool.Decides.{Decides-eqb}
use Rattle.std.proofs.lemmas.List.{length-map, map-append, take_more}
use Rattle.std.proofs.lemmas.List.Elements.{All-append, All-head, All-tail, All-cons, All-nil, All-weaker, All-take, All-get_or}
use Rattle.inst_logic.specs.Tree.{Tree, var, app, Trees, none as nil, more as cons, to_list}
use Rattle.term_bank.specs.Forest.{Forest, tree_at, arguments_of}
use Rattle.term_index.specs.declared.query.QueryNode.{QueryNode}
use Rattle.term_index.specs.Labels.{label_of, arity_of}
use Rattle.term_index.specs.Run.{Graph, node_at, args_at, no_node}
use Rattle.term_index.specs.Numbered.{IsNumbered, AreNumbered, IsKnown}
use Rattle.term_index.specs.Copies.{id_of, CopiesOne, CopiesArgs, CopiesSome, IsCopyOf}

-- an id that is looked up, and goes last where it is new
pub one_copied : (ids : List ℕ) (a : ℕ) → CopiesOne ids (if list_any (nat_eq a) ids then ids else ids ++ a ∷ []) a (position_or_len (nat_eq a) ids)
one_copied [] a = (a ∷ [], refl, omega arith, refl, λ P h k. All-cons (λ i. i < P) a [] k (All-nil (λ i. i < P)))
one_copied (x ∷ ids) a = by (nat_eq a x) refl (one_copied ids a)
  where
    later : (b : Bool) → CopiesOne ids (if b then ids else ids ++ a ∷ []) a (position_or_len (nat_eq a) ids) → CopiesOne (x ∷ ids) (if b then x ∷ ids else (x ∷ ids) ++ a ∷ []) a (1 + position_or_len (nat_eq a) ids)
    later true (added, e, w, r, h) = (added, ap (λ xs. x ∷ xs) e, omega (arith, w), (let k : 1 + position_or_len (nat_eq a) ids ≡ suc (position_or_len (nat_eq a) ids) = omega arith in ap (λ n. id_of (x ∷ ids) n) k ∙ r), λ P p q. p)
    later false (added, e, w, r, h) = (
      added,
      ap (λ xs. x ∷ xs) e,
      omega (arith, w),
      (let k : 1 + position_or_len (nat_eq a) ids ≡ suc (position_or_len (nat_eq a) ids) = omega arith in ap (λ n. id_of (x ∷ (ids ++ a ∷ [])) n) k ∙ r),
      λ P p q. All-cons (λ i. i < P) x (ids ++ a ∷ []) (All-head (λ i. i < P) x ids p) (h P (All-tail (λ i. i < P) x ids p) q),
    )

    by : (b : Bool) → nat_eq a x ≡ b → CopiesOne ids (if list_any (nat_eq a) ids then ids else ids ++ a ∷ []) a (position_or_len (nat_eq a) ids)
        → CopiesOne (x ∷ ids) (if list_any (nat_eq a) (x ∷ ids) then x ∷ ids else (x ∷ ids) ++ a ∷ []) a (position_or_len (nat_eq a) (x ∷ ids))
    by true t rest = rw t ([], sym (Rattle.std.proofs.Common.append-nil (x ∷ ids)), omega arith, sym ((Decides-eqb a x).0 t), λ P p q. p)
    by false t rest = rw t (later (list_any (nat_eq a) ids) rest)

-- reads of old ids stay
read_old : (ids more added : List ℕ) → more ≡ ids ++ added → (n : ℕ) → n < length ids → id_of more n ≡ id_of ids n
read_old ids more added e n h = ap (λ xs. id_of xs n) e ∙ get_or-append ids added 0 n h

map_old : {A : Type 0} (F G : ℕ → A) (m : ℕ) (ns : List ℕ) → All (λ n. n < m) ns → ((n : ℕ) → n < m → F n ≡ G n) → map F ns ≡ map G ns
map_old F G m [] h e = refl
map_old F G m (n ∷ ns) h e = ap₂ (λ x xs. x ∷ xs) (e n (All-head (λ n. n < m) n ns h)) (map_old F G m ns (All-tail (λ n. n < m) n ns h) e)

map-map : {A B C : Type 0} (f : A → B) (g : B → C) (xs : List A) → map g (map f xs) ≡ map (λ x. g (f x)) xs
map-map f g [] = refl
map-map f g (x ∷ xs) = ap (λ ys. g (f x) ∷ ys) (map-map f g xs)

all_front : (P : ℕ) (xs ys : List ℕ) → All (λ x. x < P) (xs ++ ys) → All (λ x. x < P) xs
all_front P xs ys h k d w = subst (λ x. x < P) (get_or-append xs ys d k w) (h k d (let e = length-append xs ys in omega arith))

-- one more argument
pub copies_more : (ids more last old new newer args : List ℕ) (i a n : ℕ) → i < length args → a ≡ get_or args i a → CopiesArgs ids more old new (take i args) → CopiesOne more last a n → newer ≡ new ++ n ∷ []
    → CopiesArgs ids last old newer (take (i + 1) args)
copies_more ids more last old new newer args i a n w at (added, numbers, e, f, is, within, bound) (plus, g, k, r, low) h = (
  added ++ plus,
  numbers ++ n ∷ [],
  g ∙ ap (λ xs. xs ++ plus) e ∙ append_assoc ids added plus,
  h ∙ ap (λ xs. xs ++ n ∷ []) f ∙ append_assoc old numbers (n ∷ []),
  map-append (id_of last) numbers (n ∷ []) ∙ ap₂ (λ xs x. xs ++ x ∷ []) (map_old (id_of last) (id_of more) (length more) numbers within (read_old more last plus g) ∙ is) r ∙ sym front,
  All-append (λ x. x < length last) numbers (n ∷ []) (All-weaker (λ x. x < length more) (λ x. x < length last) (λ x p. omega (arith, p, longer)) numbers within) (All-cons (λ x. x < length last) n [] k (All-nil (λ x. x < length last))),
  λ P p q. low P (bound P p (first P q)) (subst (λ x. x < P) (sym at) (reading P q)),
)
  where
    longer : length more ≤ length last
    longer = omega (arith, ap length g, length-append more plus)

    front : take (i + 1) args ≡ take i args ++ a ∷ []
    front = take_more args i a w ∙ ap (λ x. take i args ++ x ∷ []) (sym at)

    first : (P : ℕ) → All (λ x. x < P) (take (i + 1) args) → All (λ x. x < P) (take i args)
    first P q = all_front P (take i args) (a ∷ []) (subst (All (λ x. x < P)) front q)

    reading : (P : ℕ) → All (λ x. x < P) (take (i + 1) args) → get_or args i a < P
    reading P q = subst (λ x. x < P) at (Rattle.std.proofs.lemmas.List.Elements.All-contains (λ x. x < P) (take i args ++ a ∷ []) a (subst (All (λ x. x < P)) front q) (Rattle.std.proofs.lemmas.List.Elements.Contains-push (take i args) a))

pub copies_none : (ids old : List ℕ) → CopiesArgs ids ids old old []
copies_none ids old = ([], [], sym (Rattle.std.proofs.Common.append-nil ids), sym (Rattle.std.proofs.Common.append-nil old), refl, All-nil (λ n. n < length ids), λ P p q. p)

-- all nodes are numbered, since each is known
module _ (f : Forest) (tree : ℕ → Tree) (g : Graph) (known : (q : ℕ) → q < length g.nodes → IsKnown f (tree q)) (args : (q : ℕ) → q < length g.nodes → map tree (args_at g q) ≡ arguments_of (tree q))
    (within : (q : ℕ) → q < length g.nodes → All (λ a. a < length g.nodes) (args_at g q)) where
  mutual
    numbered_tree : (u : Tree) (q : ℕ) → q < length g.nodes → tree q ≡ u → IsNumbered f u
    numbered_tree (var v) q w e = tt
    numbered_tree (app s ts) q w e =
        let k : IsKnown f (app s ts) = subst (IsKnown f) e (known q w) in
        let r = k (Rattle.term_bank.specs.Forest.number_of f.symbols s) refl in
        let p : Rattle.term_bank.specs.Forest.symbol_at f.symbols (Rattle.term_bank.specs.Forest.number_of f.symbols s) ≡ s = (let j = r.1 in cc) in
        (r.0, p, numbered_trees ts (args_at g q) (within q w) (args q w ∙ ap arguments_of e))

    numbered_trees : (us : Trees) (qs : List ℕ) → All (λ a. a < length g.nodes) qs → map tree qs ≡ to_list us → AreNumbered f us
    numbered_trees nil qs a e = tt
    numbered_trees (cons u us) [] a e = absurd (cc)
    numbered_trees (cons u us) (q ∷ qs) a e =
        let x : tree q ≡ u = cc in
        let y : map tree qs ≡ to_list us = cc in
        (numbered_tree u q (All-head (λ a. a < length g.nodes) q qs a) x, numbered_trees us qs (All-tail (λ a. a < length g.nodes) q qs a) y)

  pub all_numbered : (q : ℕ) → q < length g.nodes → IsNumbered f (tree q)
  all_numbered q w = numbered_tree (tree q) q w refl

-- a part of the front
part_of_front : {A : Type 0} (n m : ℕ) (xs ys : List A) → m + n ≤ length xs → take n (drop m (xs ++ ys)) ≡ take n (drop m xs)
part_of_front n zero xs ys h = ap (λ zs. take n zs) refl ∙ front n xs ys (omega arith)
  where
    front : {A : Type 0} (n : ℕ) (xs ys : List A) → n ≤ length xs → take n (xs ++ ys) ≡ take n xs
    front zero xs ys h = refl
    front (suc n) [] ys h = absurd (omega arith)
    front (suc n) (x ∷ xs) ys h = ap (λ zs. x ∷ zs) (front n xs ys (omega arith))
part_of_front n (suc m) [] ys h = let z : n ≡ 0 = omega arith in ap (λ k. take k (drop (suc m) ys)) z ∙ ap (λ k. take k []) (sym z)
part_of_front n (suc m) (x ∷ xs) ys h = part_of_front n m xs ys (omega arith)

-- the part behind the front
part_behind : {A : Type 0} (n : ℕ) (xs ys : List A) → n ≡ length ys → take n (drop (length xs) (xs ++ ys)) ≡ ys
part_behind n [] ys e = ap (λ k. take k ys) e ∙ Rattle.std.proofs.lemmas.List.take_all (length ys) ys (omega arith)
part_behind n (x ∷ xs) ys e = part_behind n xs ys e

length_to_list : (ts : Trees) → length (to_list ts) ≡ Rattle.inst_logic.specs.WellFormed.count_of ts
length_to_list nil = refl
length_to_list (cons t ts) = omega (arith, length_to_list ts)

pub arity_is : (f : Forest) (t : Tree) → arity_of (label_of f t) ≡ length (arguments_of t)
arity_is f (var v) = refl
arity_is f (app s ts) = sym (length_to_list ts)

module _ (f : Forest) (ids last : List ℕ) (nodes : List QueryNode) (args new given : List ℕ) (id : ℕ) (l : Rattle.term_index.specs.declared.label.Label.Label) (h : CopiesSome f ids (record { nodes = nodes; args = args })) (w : All (λ n. n < length ids) args)
    (e : id ≡ id_of ids (length nodes)) (room : length nodes < length ids) (here : l ≡ label_of f (tree_at f id)) (known : IsKnown f (tree_at f id)) (c : CopiesArgs ids last args new given) (is : map (tree_at f) given ≡ arguments_of (tree_at f id)) where
  node : QueryNode
  node = record { label = l; first = length args }

  old : (k : ℕ) → k < length nodes → get_or (nodes ++ node ∷ []) k no_node ≡ get_or nodes k no_node
  old k p = get_or-append nodes (node ∷ []) no_node k p

  grown : Graph
  grown = record { nodes = nodes ++ node ∷ []; args = new }

  Copied : ℕ → QueryNode → Type 0
  Copied k n = (n.label ≡ label_of f (tree_at f (id_of last k))) × (n.first + arity_of n.label ≤ length new)
      × (map (λ m. tree_at f (id_of last m)) (take (arity_of n.label) (drop n.first new)) ≡ arguments_of (tree_at f (id_of last k))) × IsKnown f (tree_at f (id_of last k))

  copied_old : (k : ℕ) → k < length nodes → Copied k (get_or nodes k no_node)
  unfolding Copied
  copied_old k p =
      let r = h k p in
      let n = get_or nodes k no_node in
      let same : id_of last k ≡ id_of ids k = read_old ids last c.0 c.2 k (omega arith) in
      let part : take (arity_of n.label) (drop n.first new) ≡ take (arity_of n.label) (drop n.first args) = ap (λ xs. take (arity_of n.label) (drop n.first xs)) c.3 ∙ part_of_front (arity_of n.label) n.first args c.1 r.1 in
      let within : All (λ m. m < length ids) (take (arity_of n.label) (drop n.first args)) = All-take (λ m. m < length ids) (arity_of n.label) (drop n.first args) (Rattle.std.proofs.lemmas.List.Elements.All-drop (λ m. m < length ids) n.first args w) in (
        r.0 ∙ ap (λ i. label_of f (tree_at f i)) (sym same),
        omega (arith, r.1, ap length c.3, length-append args c.1),
        ap (map (λ m. tree_at f (id_of last m))) part ∙ map_old (λ m. tree_at f (id_of last m)) (λ m. tree_at f (id_of ids m)) (length ids) (take (arity_of n.label) (drop n.first args)) within (λ m q. ap (tree_at f) (read_old ids last c.0 c.2 m q))
            ∙ r.2 ∙ ap (λ i. arguments_of (tree_at f i)) (sym same),
        subst (λ i. IsKnown f (tree_at f i)) (sym same) r.3,
      )

  copied_new : Copied (length nodes) node
  unfolding Copied node
  copied_new =
      let same : id_of last (length nodes) ≡ id = read_old ids last c.0 c.2 (length nodes) room ∙ sym e in
      let count : arity_of l ≡ length c.1 =
      ap arity_of here ∙ arity_is f (tree_at f id) ∙ sym (ap length is) ∙ length-map given (tree_at f) ∙ sym (ap length c.4) ∙ length-map c.1 (id_of last) in (
        here ∙ ap (λ i. label_of f (tree_at f i)) (sym same),
        omega (arith, count, ap length c.3, length-append args c.1),
        ap (λ xs. map (λ m. tree_at f (id_of last m)) (take (arity_of l) (drop (length args) xs))) c.3
            ∙ ap (map (λ m. tree_at f (id_of last m))) (part_behind (arity_of l) args c.1 count) ∙ sym (map-map (id_of last) (tree_at f) c.1) ∙ ap (map (tree_at f)) c.4 ∙ is ∙ ap (λ i. arguments_of (tree_at f i)) (sym same),
        subst (λ i. IsKnown f (tree_at f i)) (sym same) known,
      )

  pub copy_on : CopiesSome f last (record { nodes = nodes ++ record { label = l; first = length args } ∷ []; args = new })
  unfolding Copied node
  copy_on k p = elim (Rattle.term_bank.proofs.Nodes.last_or_before k (length nodes) (let z = length-append nodes (node ∷ []) in omega arith)) [
    | inl q ↦ subst (Copied k) (sym (old k q)) (copied_old k q)
    | inr q ↦ subst (λ j. Copied j (get_or (nodes ++ node ∷ []) j no_node)) (sym q) (subst (Copied (length nodes)) (sym (get_or-append_seam nodes node [] no_node)) copied_new)
  ]

-- the copy is whole
pub copy_whole : (f : Forest) (query : ℕ) (ids : List ℕ) (g : Graph) → CopiesSome f ids g → length g.nodes ≡ length ids → All (λ n. n < length ids) g.args → 0 < length ids → id_of ids 0 ≡ query
    → (0 < length g.args) × (get_or g.args 0 0 ≡ 0) → IsCopyOf f query g
copy_whole f query ids g h e w some root front = record {
  tree = λ n. tree_at f (id_of ids n);
  graph = record { label = λ q p. (h q p).0; args = λ q p. (h q p).2; within = inside; numbered = all_numbered f (λ n. tree_at f (id_of ids n)) g (λ q p. (h q p).3) (λ q p. (h q p).2) inside };
  query = record { within = λ q p. (h q p).1; nodes = subst (λ m. All (λ n. n < m) g.args) (sym e) w };
  some = omega (arith, e);
  front = front;
  root = ap (tree_at f) root;
}
  where
    inside : (q : ℕ) → q < length g.nodes → All (λ a. a < length g.nodes) (args_at g q)
    inside q p = All-take (λ a. a < length g.nodes) (arity_of (node_at g q).label) (drop (node_at g q).first g.args)
        (Rattle.std.proofs.lemmas.List.Elements.All-drop (λ a. a < length g.nodes) (node_at g q).first g.args (subst (λ m. All (λ n. n < m) g.args) (sym e) w))

-- the arguments so far
pub args_on : (ids last args new given : List ℕ) → CopiesArgs ids last args new given → All (λ n. n < length ids) args → All (λ n. n < length last) new
args_on ids last args new given c w =
    subst (All (λ n. n < length last)) (sym c.3) (All-append (λ n. n < length last) args c.1 (All-weaker (λ n. n < length ids) (λ n. n < length last) (λ n p. omega (arith, p, ap length c.2, length-append ids c.0)) args w) c.5)

pub front_on : (ids last args new given : List ℕ) → CopiesArgs ids last args new given → (0 < length args) × (get_or args 0 0 ≡ 0) → (0 < length new) × (get_or new 0 0 ≡ 0)
front_on ids last args new given c h = (omega (arith, h.0, ap length c.3, length-append args c.1), ap (λ xs. get_or xs 0 0) c.3 ∙ get_or-append args c.1 0 0 h.0 ∙ h.1)

pub ids_longer : (ids last args new given : List ℕ) → CopiesArgs ids last args new given → length ids ≤ length last
ids_longer ids last args new given c = omega (arith, ap length c.2, length-append ids c.0)

pub root_on : (ids last args new given : List ℕ) → CopiesArgs ids last args new given → 0 < length ids → id_of last 0 ≡ id_of ids 0
root_on ids last args new given c h = read_old ids last c.0 c.2 0 h

any_below : (ids : List ℕ) (n : ℕ) → All (λ i. i < n) ids → (q : ℕ) → list_any (nat_eq q) ids ≡ true → q < n
any_below [] n w q h = absurd (cc)
any_below (x ∷ ids) n w q h = by (nat_eq q x) refl (any_below ids n (All-tail (λ i. i < n) x ids w) q)
  where
    by : (b : Bool) → nat_eq q x ≡ b → (list_any (nat_eq q) ids ≡ true → q < n) → q < n
    by true e rest = subst (λ i. i < n) (sym ((Decides-eqb q x).0 e)) (All-head (λ i. i < n) x ids w)
    by false e rest = rest (rw e at h)

pub few_ids : (ids : List ℕ) (n : ℕ) → Rattle.std.specs.List.IsDistinct nat_eq ids → All (λ i. i < n) ids → length ids ≤ n
few_ids ids n d w = Rattle.std.proofs.lemmas.Map.Steps.length-le_from_distinct_below ids n d (any_below ids n w)

pub id_within : (f : Forest) (ids : List ℕ) (n id : ℕ) → All (λ i. i < length f.trees) ids → n < length ids → id ≡ id_of ids n → id < length f.trees
id_within f ids n id w h e = subst (λ i. i < length f.trees) (sym e) (w n 0 h)

pub ids_bound : (f : Forest) (ids last args new given : List ℕ) (id : ℕ) → id < length f.trees → CopiesArgs ids last args new given → All (λ i. i < length f.trees) ids → All (λ i. i < id) given → All (λ i. i < length f.trees) last
ids_bound f ids last args new given id h c w k = c.6 (length f.trees) w (All-weaker (λ i. i < id) (λ i. i < length f.trees) (λ x p. omega (arith, p, h)) given k)
