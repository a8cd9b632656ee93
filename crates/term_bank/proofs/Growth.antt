-- A bank and a bank that extends it. Crates above cite these laws.
use Rattle.std.proofs.Common.{◌≡◌, ◌≢◌, ℕ, ◌<◌, List, [], ◌∷◌, ◌++◌, ◌-◌, length, map, take, drop, true, refl, ap, ap₂, ◌∙◌, arith, length-drop}
use Rattle.std.specs.List.{list_all}
use Rattle.std.proofs.lemmas.List.{take_all, take-map, drop-map, length-map}
use Rattle.inst_logic.specs.declared.symbol.Sym.{Sym}
use Rattle.term_bank.specs.Steps.{applied}
use Rattle.term_bank.proofs.Walks.{applied_formed}
use Rattle.std.proofs.lemmas.List.{map_push}
use Rattle.inst_logic.specs.Tree.{Tree, app, of_list}
use Rattle.std.proofs.lemmas.List.Elements.{All-head, All-tail, All-push, All-take, All-weaker}
use Rattle.term_bank.specs.Forest.{Forest, tree_at, KeepsPlaces, IsAt, AreIds, Extends, Grows, is_formed}

keeps_trans : {A : Type 0} (d : A) (xs ys zs : List A) → KeepsPlaces d xs ys → KeepsPlaces d ys zs → KeepsPlaces d xs zs
keeps_trans d xs ys zs p q = (omega (arith, p.0, q.0), λ i h. q.1 i (omega (arith, p.0)) ∙ p.1 i h)

pub extends_trans : (f g h : Forest) → Extends f g → Extends g h → Extends f h
extends_trans f g h p q = record { trees = keeps_trans _ f.trees g.trees h.trees p.trees q.trees; symbols = keeps_trans _ f.symbols g.symbols h.symbols p.symbols q.symbols }

pub grows_trans : (f g h : Forest) → Grows f g → Grows g h → Grows f h
grows_trans f g h p q = (extends_trans f g h p.0 q.0, λ old. q.1 (p.1 old))

pub extends_itself : (f : Forest) → Extends f f
extends_itself f = record { trees = (omega arith, λ _ _. refl); symbols = (omega arith, λ _ _. refl) }

pub at_extends : (f g : Forest) (id : ℕ) (t : Tree) → Extends f g → IsAt f id t → IsAt g id t
at_extends f g id t e h = (omega (arith, e.trees.0, h.0), e.trees.1 id h.0 ∙ h.1)

pub ids_extend : (f g : Forest) (ids : List ℕ) → Extends f g → AreIds f ids → AreIds g ids
ids_extend f g ids e h = All-weaker (λ i. i < length f.trees) (λ i. i < length g.trees) (λ i k. omega (arith, e.trees.0)) ids h

pub map_extends : (f g : Forest) (ids : List ℕ) → Extends f g → AreIds f ids → map (tree_at g) ids ≡ map (tree_at f) ids
map_extends f g [] e h = refl
map_extends f g (i ∷ ids) e h =
    ap₂ (λ x xs. x ∷ xs) (e.trees.1 i (All-head (λ i. i < length f.trees) i ids h)) (map_extends f g ids e (All-tail (λ i. i < length f.trees) i ids h))

-- one more id
pub ids_pushed : (f g : Forest) (ids : List ℕ) (id : ℕ) → Extends f g → AreIds f ids → id < length g.trees → AreIds g (ids ++ id ∷ [])
ids_pushed f g ids id e h n = All-push (λ i. i < length g.trees) ids id (ids_extend f g ids e h) n

pub map_pushed : (f g : Forest) (ids : List ℕ) (id : ℕ) (t : Tree) → Extends f g → AreIds f ids → tree_at g id ≡ t → map (tree_at g) (ids ++ id ∷ []) ≡ map (tree_at f) ids ++ t ∷ []
map_pushed f g ids id t e within at = map_push (tree_at g) ids id ∙ ap₂ (λ xs x. xs ++ x ∷ []) (map_extends f g ids e within) at

-- a list that is not empty is not mapped to the empty list
pub none_left : {A B : Type 0} (f : A → B) (xs : List A) → xs ≢ [] → map f xs ≢ []
none_left f [] n e = n refl
none_left f (x ∷ xs) n e = absurd cc

-- the ids on top, as a slice
pub slice_is : (ids ds : List ℕ) (k len n : ℕ) → ds ≡ ids → k ≡ len - n → len ≡ length ids → take (length ds - k) (drop k ds) ≡ drop (length ids - n) ids
slice_is ids ds k len n is start all =
    let e : k ≡ length ids - n = start ∙ ap (λ m. m - n) all in
    rw (is, e) (take_all (length ids - (length ids - n)) (drop (length ids - n) ids) (omega (arith, length-drop (length ids - n) ids)))

-- the ids after an application
pub map_applied : (f g : Forest) (ids : List ℕ) (id : ℕ) (s : Sym) (n : ℕ) → Extends f g → AreIds f ids → tree_at g id ≡ app s (of_list (map (tree_at f) (drop (length ids - n) ids)))
    → map (tree_at g) (take (length ids - n) ids ++ id ∷ []) ≡ applied s n (map (tree_at f) ids)
map_applied f g ids id s n e within at =
    let k = length ids - n in
    let same : length (map (tree_at f) ids) - n ≡ k = ap (λ m. m - n) (length-map ids (tree_at f)) in
    map_pushed f g (take k ids) id _ e (All-take (λ i. i < length f.trees) k ids within) at
    ∙ rw (same, take-map (tree_at f) k ids, drop-map (tree_at f) k ids) refl

-- the application is formed where all trees are
pub top_formed : (f : Forest) (ids xs : List ℕ) (s : Sym) (n : ℕ) → xs ≡ drop (length ids - n) ids → list_all is_formed (applied s n (map (tree_at f) ids)) ≡ true
    → is_formed (app s (of_list (map (tree_at f) xs))) ≡ true
top_formed f ids xs s n is h =
    let k = length ids - n in
    let same : length (map (tree_at f) ids) - n ≡ k = ap (λ m. m - n) (length-map ids (tree_at f)) in
    let t : is_formed (app s (of_list (drop k (map (tree_at f) ids)))) ≡ true = rw same at (applied_formed s n (map (tree_at f) ids) h) in
    rw (is, ← drop-map (tree_at f) k ids) t
