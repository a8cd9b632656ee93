-- The terms of a lemma, found by matching the kept literals onto their renumbered form.
use Rattle.std.proofs.Common.{◌≡◌, ◌⊎◌, ℕ, zero, suc, ◌+◌, ◌<◌, List, [], ◌∷◌, ◌++◌, inl, inr, refl, sym, ap, ap₂, ◌∙◌, subst as transport, map, length, get_or, arith, nat_eq, Bool, true, false, cond, All, Option, None, Some}
use Rattle.std.specs.List.{cons_option, list_any}
use Rattle.std.specs.List.Sorted.{IsStrictlyIncreasing}
use Rattle.std.specs.Map.{keys_of}
use Rattle.std.specs.Prelude.{option_map, slice_get}
use Rattle.std.proofs.lemmas.Bool.Decides.{Decides-eqb}
use Rattle.std.proofs.lemmas.List.{get_or-map, get_or_default}
use Rattle.std.proofs.lemmas.Option.{slice_get-map}
use Rattle.inst_logic.specs.declared.signed.Signed.{Signed}
use Rattle.inst_logic.specs.declared.symbol.Sym.{Sym}
use Rattle.inst_logic.specs.Tree.{Tree, var, app, none}
use Rattle.inst_logic.specs.Equal.{literal_eq}
use Rattle.inst_logic.specs.Clauses.{TreeClause, numbered, order_of, canonical_form, IsCanonical}
use Rattle.inst_logic.specs.Derivations.{at_number}
use Rattle.inst_logic.specs.Substitution.{Substitution, subst, subst_literal, tree_vars, clause_vars}
use Rattle.inst_logic.specs.WellFormed.{IsTerm}
use Rattle.inst_logic.proofs.Membership.{any_true, any_from}
use Rattle.inst_logic.proofs.SameLemmas.{literal_eq_decides}
use Rattle.inst_calculus.specs.Parts.{IsProperPart, chosen}
use Rattle.inst_calculus.specs.Unrolling.{part_variable, part_terms}
use Rattle.inst_calculus.proofs.Clauses.{literal_of, variable_of}
use Rattle.inst_calculus.proofs.Items.{same_item}
use Rattle.inst_calculus.proofs.CanonicalForms.{distinct_renamed, unnumbered, unnumbered_undoes}
use Rattle.inst_calculus.proofs.CanonicalVariables.{canonical_term}
use Rattle.inst_calculus.proofs.Distinct.{IsDistinct, distinct_is_distinct, distinct_of_distinct, from_distinct, in_distinct, length_map}
use Rattle.inst_calculus.proofs.Membership.{◌∈◌, in_contains, in_all, in_left, in_right, in_either, in_map, from_map}
use Rattle.inst_calculus.proofs.ProperParts.{from_chosen}
use Rattle.term_bank.specs.Forest.{Forest, AreIds, Extends, clause_at, literal_tree, tree_at}
use Rattle.unify_core.specs.Matching.{IsMatch}
use Rattle.unify_core.specs.Sides.{Binding}
use Rattle.unify_core.specs.declared.side.Side.TheVariants.{Left}
use Rattle.unify_core.specs.declared.side.Variable.{Variable}
use Rattle.clause_form.specs.Conclusions.{AreTermIds}
use Rattle.instgen_loop.specs.PartTerms.{AreBound, AreBoundBy, AreBoundTerms, IsBoundTerm, IsRenumbered, renumbering}

-- Kept literals are different

at_in : {X : Type 0} (xs : List X) (n : ℕ) (x : X) → at_number xs n ≡ Some x → x ∈ xs
at_in xs zero x e = absurd cc
at_in [] (suc n) x e = absurd cc
at_in (y ∷ xs) (suc zero) x e = inl (sym (same_item (Some y) y x refl e))
at_in (y ∷ xs) (suc (suc n)) x e = inr (at_in xs (suc n) x e)

at_once : {X : Type 0} (xs : List X) (m n : ℕ) (x : X) → IsDistinct xs → at_number xs m ≡ Some x → at_number xs n ≡ Some x → m ≡ n
at_once xs zero n x h p q = absurd cc
at_once xs (suc m) zero x h p q = absurd cc
at_once [] (suc m) (suc n) x h p q = absurd cc
at_once (y ∷ xs) (suc zero) (suc zero) x h p q = refl
at_once (y ∷ xs) (suc zero) (suc (suc n)) x h p q = absurd (h.0 (at_in xs (suc n) y (q ∙ sym p)))
at_once (y ∷ xs) (suc (suc m)) (suc zero) x h p q = absurd (h.0 (at_in xs (suc m) y (p ∙ sym q)))
at_once (y ∷ xs) (suc (suc m)) (suc (suc n)) x h p q = ap suc (at_once xs (suc m) (suc n) x h.1 p q)

rising_tail : (k : ℕ) (ks : List ℕ) → IsStrictlyIncreasing (k ∷ ks) → IsStrictlyIncreasing ks
rising_tail k ks h i l = let e : suc i + 1 ≡ suc (i + 1) = omega arith in transport (λ m. get_or (k ∷ ks) (suc i) 0 < get_or (k ∷ ks) m 0) e (h (suc i) (omega arith))

head_below : (k : ℕ) (ks : List ℕ) → IsStrictlyIncreasing (k ∷ ks) → (m : ℕ) → m ∈ ks → k < m
head_below k [] r m i = absurd i
head_below k (j ∷ ks) r m (inl e) = let l : k < j = r 0 (omega arith) in omega arith
head_below k (j ∷ ks) r m (inr i) = let l : k < j = r 0 (omega arith) in let b : j < m = head_below j ks (rising_tail k (j ∷ ks) r) m i in omega arith

chosen_once : {X : Type 0} (xs : List X) (ks : List ℕ) → IsDistinct xs → IsStrictlyIncreasing ks → IsDistinct (chosen xs ks)
chosen_once xs [] h r = tt
chosen_once {X} xs (k ∷ ks) h r = go (at_number xs k) refl (chosen_once xs ks h (rising_tail k ks r))
  where
    go : (o : Option X) → at_number xs k ≡ o → IsDistinct (chosen xs ks) → IsDistinct (cons_option o (chosen xs ks))
    go None e rest = rest
    go (Some x) e rest = (λ i. let (m, j, q) = from_chosen xs ks x i in let same = at_once xs k m x h e q in let l = head_below k ks r m j in omega arith, rest)

canonical_once : (c : TreeClause) → IsCanonical c → IsDistinct c
canonical_once c h = transport IsDistinct h (distinct_is_distinct literal_eq literal_eq_decides (map (subst_literal (numbered (order_of c))) c))

-- no literal of a part of a canonical clause is dropped where it is renumbered
pub part_renumbered : (w : TreeClause) (keep : List ℕ) → IsCanonical w → IsProperPart (length w) keep
    → canonical_form (chosen w keep) ≡ map (subst_literal (numbered (order_of (chosen w keep)))) (chosen w keep)
part_renumbered w keep canonical proper =
    let k = chosen w keep in
    distinct_renamed (numbered (order_of k)) (unnumbered (order_of k)) k (unnumbered_undoes k)
    ∙ ap (map (subst_literal (numbered (order_of k)))) (distinct_of_distinct literal_eq literal_eq_decides k (chosen_once w keep (canonical_once w canonical) proper.rising))

-- Binding

-- one literal after the other
pub renumbered_at : (f : Forest) (kept part : List (Signed ℕ)) (i : ℕ) (l m : Signed ℕ) → IsRenumbered f kept part → slice_get kept i ≡ Some l → slice_get part i ≡ Some m
    → subst (renumbering f kept) (tree_at f l.atom) ≡ tree_at f m.atom
renumbered_at f kept part i l m same l_at m_at =
    let s = renumbering f kept in
    let left : slice_get (clause_at f part) i ≡ Some (literal_tree f m) = slice_get-map (literal_tree f) part i ∙ ap (option_map (literal_tree f)) m_at in
    let right : slice_get (map (subst_literal s) (clause_at f kept)) i ≡ Some (subst_literal s (literal_tree f l)) =
    slice_get-map (subst_literal s) (clause_at f kept) i ∙ ap (option_map (subst_literal s)) (slice_get-map (literal_tree f) kept i ∙ ap (option_map (literal_tree f)) l_at) in
    ap (λ (t : Signed Tree). t.atom) (same_item (slice_get (clause_at f part) i) (subst_literal s (literal_tree f l)) (literal_tree f m) (ap (λ xs. slice_get xs i) same ∙ right) left)

vars_push : (f : Forest) (xs : List (Signed ℕ)) (l : Signed ℕ) (v : ℕ) → v ∈ clause_vars (clause_at f (xs ++ l ∷ [])) → (v ∈ clause_vars (clause_at f xs)) ⊎ (v ∈ tree_vars (tree_at f l.atom))
vars_push f xs l v i =
    let (t, j, k) = literal_of v (clause_at f (xs ++ l ∷ [])) i in
    let (x, m, q) = from_map (literal_tree f) t (xs ++ l ∷ []) j in
    elim (in_either x xs (l ∷ []) m) [
      | inl n ↦ inl (variable_of v (literal_tree f x) (clause_at f xs) (in_map (literal_tree f) x xs n) (transport (λ (y : Signed Tree). v ∈ tree_vars y.atom) (sym q) k))
      | inr (inl e) ↦ inr (transport (λ (y : Signed ℕ). v ∈ tree_vars (tree_at f y.atom)) e (transport (λ (y : Signed Tree). v ∈ tree_vars y.atom) (sym q) k))
      | inr (inr n) ↦ absurd n
    ]

vars_before : (f : Forest) (xs : List (Signed ℕ)) (l : Signed ℕ) (v : ℕ) → v ∈ clause_vars (clause_at f xs) → v ∈ clause_vars (clause_at f (xs ++ l ∷ []))
vars_before f xs l v i =
    let (t, j, k) = literal_of v (clause_at f xs) i in
    let (x, m, q) = from_map (literal_tree f) t xs j in
    variable_of v t (clause_at f (xs ++ l ∷ [])) (transport (λ y. y ∈ clause_at f (xs ++ l ∷ [])) q (in_map (literal_tree f) x (xs ++ l ∷ []) (in_left x xs (l ∷ []) m))) k

vars_last : (f : Forest) (xs : List (Signed ℕ)) (l : Signed ℕ) (v : ℕ) → v ∈ tree_vars (tree_at f l.atom) → v ∈ clause_vars (clause_at f (xs ++ l ∷ []))
vars_last f xs l v i = variable_of v (literal_tree f l) (clause_at f (xs ++ l ∷ [])) (in_map (literal_tree f) l (xs ++ l ∷ []) (in_right l xs (l ∷ []) (inl refl))) i

pub one_more_bound : (f : Forest) (s : Substitution) (xs ys : List (Signed ℕ)) (l : Signed ℕ) (old new : List Binding) (target : Tree) → AreBoundBy f s (clause_vars (clause_at f xs)) old
    → IsMatch f old new (tree_at f l.atom) target → subst s (tree_at f l.atom) ≡ target → ys ≡ xs ++ l ∷ [] → AreBoundBy f s (clause_vars (clause_at f ys)) new
one_more_bound f s xs ys l old new target h m e q = transport (λ zs. AreBoundBy f s (clause_vars (clause_at f zs)) new) (sym q) (record {
  matches = m.matches;
  agrees = m.least s h.agrees e;
  bound = λ v i. elim (vars_push f xs l v i) [
    | inl j ↦ let (b, k, p) = h.bound v j in let (more, grown, inside) = m.grown in (b, transport (λ es. b ∈ es) (sym grown) (in_left b old more k), p)
    | inr j ↦ m.bound v j
  ];
  only = λ b i.
      let (more, grown, inside) = m.grown in
      elim (in_either b old more (transport (λ es. b ∈ es) grown i)) [
        | inl j ↦ vars_before f xs l b.0.var (h.only b j)
        | inr j ↦ vars_last f xs l b.0.var (inside b j)
      ];
})

-- The terms

variable_listed : (k : TreeClause) (v : ℕ) → v ∈ clause_vars k → list_any (λ w. nat_eq w v) (order_of k) ≡ true
variable_listed k v i = any_from (λ w. nat_eq w v) (order_of k) v (in_distinct nat_eq Decides-eqb v (clause_vars k) i) ((Decides-eqb v v).1 refl)

variable_missing : (k : TreeClause) (v : ℕ) → ¬ (v ∈ clause_vars k) → list_any (λ w. nat_eq w v) (order_of k) ≡ false
variable_missing k v n = go (list_any (λ w. nat_eq w v) (order_of k)) refl
  where
    go : (b : Bool) → list_any (λ w. nat_eq w v) (order_of k) ≡ b → list_any (λ w. nat_eq w v) (order_of k) ≡ false
    go false e = e
    go true e =
        let (w, i, q) = any_true (λ w. nat_eq w v) (order_of k) e in
        let same : w ≡ v = (Decides-eqb w v).0 q in
        absurd (n (transport (λ u. u ∈ clause_vars k) same (from_distinct nat_eq Decides-eqb w (clause_vars k) i)))

module _ (f : Forest) (bot : Sym) (kept : List (Signed ℕ)) (es : List Binding) (constant : ℕ) (bound : AreBound f kept es) (is : tree_at f constant ≡ app bot none) where
  abbrev literals : TreeClause
  literals = clause_at f kept

  term_is : (v id : ℕ) → IsBoundTerm es constant v id → tree_at f id ≡ part_variable bot literals v
  term_is v id (inl (b, i, e)) =
      let there : v ∈ clause_vars literals = bound.only (record { side = Left; var = v }, b) i in
      ap (tree_at f) e ∙ sym (bound.agrees (record { side = Left; var = v }, b) i) ∙ sym (ap (λ x. cond x (numbered (order_of literals) v) (app bot none)) (variable_listed literals v there))
  term_is v id (inr (n, e)) =
      ap (tree_at f) e ∙ is ∙ sym (ap (λ x. cond x (numbered (order_of literals) v) (app bot none)) (variable_missing literals v (λ i.
      let (b, j, q) = bound.bound v i in
      n (transport (λ (x : Variable). x ∈ keys_of es) (λ k. record { side = bound.matches.left b j k; var = q k }) (in_map (λ (x : Binding). x.0) b es j)))))

by_items : (xs ys : List Tree) → length xs ≡ length ys → ((i : ℕ) → i < length xs → get_or xs i (var 0) ≡ get_or ys i (var 0)) → xs ≡ ys
by_items [] [] e h = refl
by_items [] (y ∷ ys) e h = absurd (omega arith)
by_items (x ∷ xs) [] e h = absurd (omega arith)
by_items (x ∷ xs) (y ∷ ys) e h = ap₂ (λ a b. a ∷ b) (h 0 (omega arith)) (by_items xs ys (omega arith) (λ i l. h (suc i) (omega arith)))

module _ (f g : Forest) (x : Extends f g) (whole kept : List (Signed ℕ)) (keep : List ℕ) (es : List Binding) (constant count : ℕ) (ids : List ℕ)
    (canonical : IsCanonical (clause_at f whole)) (is : clause_at g kept ≡ chosen (clause_at f whole) keep) (bound : AreBound g kept es)
    (counted : count ≡ length (order_of (clause_at f whole))) (terms : AreBoundTerms es constant count ids) (there : constant < length f.trees) where
  pub terms_are : (bot : Sym) → tree_at f constant ≡ app bot none → map (tree_at g) ids ≡ part_terms bot (clause_at f whole) (chosen (clause_at f whole) keep)
  terms_are bot e =
      let w = clause_at f whole in
      by_items (map (tree_at g) ids) (part_terms bot w (chosen w keep)) (length_map (tree_at g) ids ∙ terms.count_of ∙ counted ∙ sym (length_map (part_variable bot (chosen w keep)) (order_of w)))
      (λ v l.
      let l2 : v < length ids = let q = length_map (tree_at g) ids in omega arith in
      let l3 : v < count = let q = terms.count_of in omega arith in
      get_or-map (tree_at g) ids v 0 (var 0) l2
      ∙ term_is g bot kept es constant bound (x.trees.1 constant there ∙ e) v (get_or ids v 0) (terms.each v l3)
      ∙ ap (λ k. part_variable bot k v) is
      ∙ sym (canonical_term (part_variable bot (chosen w keep)) w v (var 0) canonical (omega (arith, l3, counted))))

  -- each is a variable of the part, or the constant
  bound_in : (v id : ℕ) → IsBoundTerm es constant v id → (id < length g.trees) × (IsTerm (tree_at f constant) → IsTerm (tree_at g id))
  bound_in v id (inl (b, i, e)) = (
    transport (λ n. n < length g.trees) (sym e) (bound.matches.within (record { side = Left; var = v }, b) i),
    λ t. transport IsTerm (sym (ap (tree_at g) e ∙ sym (bound.agrees (record { side = Left; var = v }, b) i))) refl,
  )
  bound_in v id (inr (n, e)) = (
    transport (λ n. n < length g.trees) (sym e) (let a = x.trees.0 in omega arith),
    λ t. transport IsTerm (sym (ap (tree_at g) e ∙ x.trees.1 constant there)) t,
  )

  at_place : (P : ℕ → Type 0) → ((v id : ℕ) → IsBoundTerm es constant v id → P id) → All P ids
  at_place P h = in_all P ids (λ id i.
      let (v, l, q) = in_contains id ids i in
      transport P (get_or_default ids v 0 id l ∙ q) (h v (get_or ids v 0) (terms.each v (let c = terms.count_of in omega arith))))

  pub ids_are : AreIds g ids
  ids_are = at_place (λ id. id < length g.trees) (λ v id h. (bound_in v id h).0)

  pub plain_are : IsTerm (tree_at f constant) → AreTermIds g ids
  plain_are t = at_place (λ id. IsTerm (tree_at g id)) (λ v id h. (bound_in v id h).1 t)
