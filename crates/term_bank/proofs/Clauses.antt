-- A clause of ids and its trees, as the bank grows, and where equal trees have equal ids. Crates above cite these laws.
use Rattle.std.proofs.Common.{◌≡◌, ℕ, zero, suc, ◌<◌, List, [], ◌∷◌, ◌++◌, length, map, get_or, Bool, true, false, refl, ap, ap₂, sym, subst, ◌∙◌, arith}
use Rattle.std.specs.List.{All}
use Rattle.std.proofs.lemmas.List.{map_push}
use Rattle.std.proofs.lemmas.List.Elements.{All-head, All-tail, All-weaker, All-push, All-nil, All-cons, All-map}
use Rattle.std.proofs.lemmas.List.Folds.{list_all_at}
use Rattle.inst_logic.specs.declared.signed.Signed.{Signed}
use Rattle.inst_logic.specs.declared.clause.Literal.{Literal}
use Rattle.inst_logic.specs.LiteralView.{literal}
use Rattle.inst_logic.specs.Tree.{Tree}
use Rattle.inst_logic.specs.Clauses.{TreeClause}
use Rattle.inst_logic.specs.WellFormed.{IsAtom, IsFormedClause, AreFormedClauses, atom_is_formed, clause_is_formed}
use Rattle.inst_logic.proofs.Membership.{◌∈◌, in_all}
use Rattle.inst_logic.proofs.SameLemmas.{and_left, and_right}
use Rattle.term_bank.specs.Forest.{Forest, tree_at, Extends, AreDistinct, AreIds, IsClauseOf, clause_at, literal_tree}

-- literals of ids with equal trees are equal
pub same_literal : (f : Forest) → AreDistinct f.trees → (k l : Signed ℕ) → k.atom < length f.trees → l.atom < length f.trees → literal_tree f k ≡ literal_tree f l → k ≡ l
same_literal f once k l a b e =
    let s : k.positive ≡ l.positive = ap (λ (x : Signed Tree). x.positive) e in
    let t : k.atom ≡ l.atom = once k.atom l.atom a b (ap (λ (x : Signed Tree). x.atom) e) in
    ap₂ (λ p n. record { positive = p; atom = n }) s t

-- the atoms of a clause of ids are ids
pub atom_ids : (f : Forest) (c : List (Signed ℕ)) → IsClauseOf f c → AreIds f (map (λ l. l.atom) c)
atom_ids f c h = All-map (λ (i : ℕ). i < length f.trees) (λ l. l.atom) c h

module _ (f g : Forest) (e : Extends f g) where
  pub clause_of_extends : (c : List (Signed ℕ)) → IsClauseOf f c → IsClauseOf g c
  clause_of_extends c h = All-weaker (λ (m : Signed ℕ). m.atom < length f.trees) (λ (m : Signed ℕ). m.atom < length g.trees) (λ m k. omega (arith, e.trees.0)) c h

  pub atoms_extend : (c : List (Signed ℕ)) → IsClauseOf f c → All (λ (m : Signed ℕ). IsAtom (tree_at f m.atom)) c → All (λ (m : Signed ℕ). IsAtom (tree_at g m.atom)) c
  atoms_extend [] h a = All-nil (λ (m : Signed ℕ). IsAtom (tree_at g m.atom))
  atoms_extend (l ∷ c) h a =
      let within : l.atom < length f.trees = All-head (λ (m : Signed ℕ). m.atom < length f.trees) l c h in
      All-cons (λ (m : Signed ℕ). IsAtom (tree_at g m.atom)) l c
      (subst IsAtom (sym (e.trees.1 l.atom within)) (All-head (λ (m : Signed ℕ). IsAtom (tree_at f m.atom)) l c a))
      (atoms_extend c (All-tail (λ (m : Signed ℕ). m.atom < length f.trees) l c h) (All-tail (λ (m : Signed ℕ). IsAtom (tree_at f m.atom)) l c a))

  -- an extension keeps the trees of a clause
  pub clause_extends : (c : List (Signed ℕ)) → IsClauseOf f c → clause_at g c ≡ clause_at f c
  clause_extends [] h = refl
  clause_extends (l ∷ c) h =
      let first : tree_at g l.atom ≡ tree_at f l.atom = e.trees.1 l.atom (All-head (λ (m : Signed ℕ). m.atom < length f.trees) l c h) in
      let l' : Tree → Signed Tree = λ t. record { positive = l.positive; atom = t } in
      ap₂ (λ x xs. x ∷ xs) (ap l' first) (clause_extends c (All-tail (λ (m : Signed ℕ). m.atom < length f.trees) l c h))

  -- one more literal
  pub clause_pushed : (c : List (Signed ℕ)) (l : Signed ℕ) (m : Signed Tree) → IsClauseOf f c → l.positive ≡ m.positive → tree_at g l.atom ≡ m.atom → clause_at g (c ++ l ∷ []) ≡ clause_at f c ++ m ∷ []
  clause_pushed c l m within sign atom =
      map_push (λ (k : Signed ℕ). record { positive = k.positive; atom = tree_at g k.atom }) c l
      ∙ ap₂ (λ xs x. xs ++ x ∷ []) (clause_extends c within) (λ i. record { positive = sign i; atom = atom i })

  pub clause_within : (c : List (Signed ℕ)) (l : Signed ℕ) → IsClauseOf f c → l.atom < length g.trees → IsClauseOf g (c ++ l ∷ [])
  clause_within c l within last =
      All-push (λ (m : Signed ℕ). m.atom < length g.trees) c l (All-weaker (λ (m : Signed ℕ). m.atom < length f.trees) (λ (m : Signed ℕ). m.atom < length g.trees) (λ m k. omega (arith, e.trees.0)) c within) last

-- clauses that items of a list have, as members of a certificate
module _ {A : Type 0} (ids : A → List (Signed ℕ)) (f g : Forest) (e : Extends f g) where
  pub lists_extend : (xs : List A) → All (λ x. IsClauseOf f (ids x)) xs → All (λ x. IsClauseOf g (ids x)) xs
  lists_extend xs h = All-weaker (λ x. IsClauseOf f (ids x)) (λ x. IsClauseOf g (ids x)) (λ x k. clause_of_extends f g e (ids x) k) xs h

  pub list_trees_extend : (xs : List A) → All (λ x. IsClauseOf f (ids x)) xs → map (λ x. clause_at g (ids x)) xs ≡ map (λ x. clause_at f (ids x)) xs
  list_trees_extend [] h = refl
  list_trees_extend (x ∷ xs) h =
      ap₂ (λ y ys. y ∷ ys) (clause_extends f g e (ids x) (All-head (λ x. IsClauseOf f (ids x)) x xs h)) (list_trees_extend xs (All-tail (λ x. IsClauseOf f (ids x)) x xs h))

  pub list_atoms_extend : (xs : List A) → All (λ x. IsClauseOf f (ids x)) xs → All (λ x. All (λ m. IsAtom (tree_at f m.atom)) (ids x)) xs → All (λ x. All (λ m. IsAtom (tree_at g m.atom)) (ids x)) xs
  list_atoms_extend [] h a = All-nil (λ x. All (λ m. IsAtom (tree_at g m.atom)) (ids x))
  list_atoms_extend (x ∷ xs) h a =
      All-cons (λ x. All (λ m. IsAtom (tree_at g m.atom)) (ids x)) x xs
      (atoms_extend f g e (ids x) (All-head (λ x. IsClauseOf f (ids x)) x xs h) (All-head (λ x. All (λ m. IsAtom (tree_at f m.atom)) (ids x)) x xs a))
      (list_atoms_extend xs (All-tail (λ x. IsClauseOf f (ids x)) x xs h) (All-tail (λ x. All (λ m. IsAtom (tree_at f m.atom)) (ids x)) x xs a))

  pub list_pushed : (xs : List A) (y : A) → All (λ x. IsClauseOf f (ids x)) xs → IsClauseOf g (ids y) → All (λ x. IsClauseOf g (ids x)) (xs ++ y ∷ [])
  list_pushed xs y h k = All-push (λ x. IsClauseOf g (ids x)) xs y (lists_extend xs h) k

  pub list_trees_pushed : (xs : List A) (y : A) → All (λ x. IsClauseOf f (ids x)) xs → map (λ x. clause_at g (ids x)) (xs ++ y ∷ []) ≡ map (λ x. clause_at f (ids x)) xs ++ clause_at g (ids y) ∷ []
  list_trees_pushed xs y h = map_push (λ x. clause_at g (ids x)) xs y ∙ ap (λ ys. ys ++ clause_at g (ids y) ∷ []) (list_trees_extend xs h)

-- an extension keeps the trees of clauses
pub clauses_extend : (f g : Forest) → Extends f g → (cs : List (List (Signed ℕ))) → ((c : List (Signed ℕ)) → c ∈ cs → IsClauseOf f c) → map (clause_at g) cs ≡ map (clause_at f) cs
clauses_extend f g e cs h = list_trees_extend (λ c. c) f g e cs (in_all (IsClauseOf f) cs h)

-- each of some formed clauses is formed
pub formed_at : (trees : List TreeClause) (i : ℕ) (d : TreeClause) → AreFormedClauses trees → i < length trees → d ≡ get_or trees i d → IsFormedClause d
formed_at trees i d h within is = by (clause_is_formed (get_or trees i d)) refl
  where
    by : (b : Bool) → clause_is_formed (get_or trees i d) ≡ b → IsFormedClause d
    by true e = ap clause_is_formed is ∙ e
    by false e = let no = list_all_at clause_is_formed trees i d within e in absurd (cc)

-- each atom of a formed clause is formed
pub literal_formed : (ls : List Literal) (i : ℕ) (l : Literal) → i < length ls → l ≡ get_or ls i l → clause_is_formed (map literal ls) ≡ true → atom_is_formed (literal l).atom ≡ true
literal_formed [] i l within is h = absurd (omega arith)
literal_formed (x ∷ ls) zero l within is h = ap (λ (y : Literal). atom_is_formed (literal y).atom) is ∙ and_left (atom_is_formed (literal x).atom) _ h
literal_formed (x ∷ ls) (suc i) l within is h = literal_formed ls i l (omega arith) is (and_right (atom_is_formed (literal x).atom) _ h)
