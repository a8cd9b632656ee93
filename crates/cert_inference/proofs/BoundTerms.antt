-- The bindings that unify two atoms are to terms.
use Rattle.std.proofs.Common.{◌≡◌, ℕ, List, refl, ap, sym, ◌∙◌, subst, true}
use Rattle.std.specs.Prelude.{◌&&◌, nat_eq}
use Rattle.inst_logic.specs.Tree.{Tree, var, app, Trees, none, more}
use Rattle.inst_logic.specs.Substitution.{subst as apply, substs, Substitution}
use Rattle.inst_logic.specs.Unifiers.{Sided, IsMostGeneral}
use Rattle.inst_logic.specs.WellFormed.{count_of, tree_is_formed, trees_are_formed, is_function_kind, IsAtom}
use Rattle.inst_logic.proofs.SameLemmas.{and_left, and_right, and_both}
use Rattle.inst_calculus.proofs.Unify.{most_general_formed}
use Rattle.term_bank.specs.Forest.{Forest, tree_at}
use Rattle.unify_core.specs.Sides.{Binding, of_side, IsResolvedBy}
use Rattle.unify_core.specs.Terms.{AreTerms}
use Rattle.unify_core.specs.declared.side.Side.{Side}
use Rattle.unify_core.specs.declared.side.Side.TheVariants.{Left, Right}
use Rattle.inst_logic.proofs.Formed.{count_of_substs}

-- a tree with an instance that is a term is a term
module _ (s : Substitution) where
  mutual
    term_by_instance : (t : Tree) → tree_is_formed (apply s t) ≡ true → tree_is_formed t ≡ true
    term_by_instance (var n) h = refl
    term_by_instance (app f ts) h =
        let k = is_function_kind f.kind in
        let n = nat_eq (count_of (substs s ts)) f.arity in
        let r : (n && trees_are_formed (substs s ts)) ≡ true = and_right k _ h in
        and_both k _ (and_left k _ h)
        (and_both (nat_eq (count_of ts) f.arity) _ (ap (λ m. nat_eq m f.arity) (sym (count_of_substs s ts)) ∙ and_left n _ r) (terms_by_instance ts (and_right n _ r)))

    terms_by_instance : (ts : Trees) → trees_are_formed (substs s ts) ≡ true → trees_are_formed ts ≡ true
    terms_by_instance none h = refl
    terms_by_instance (more t ts) h =
        let b = tree_is_formed (apply s t) in
        and_both (tree_is_formed t) _ (term_by_instance t (and_left b _ h)) (terms_by_instance ts (and_right b _ h))

pub bound_terms : (f : Forest) (es : List Binding) (a b : Tree) → IsAtom a → IsAtom b → (s : Sided) → IsResolvedBy f es s → IsMostGeneral s a b → AreTerms f es
bound_terms f es a b h k s r g e i = term_by_instance (of_side s e.1.side) (tree_at f e.1.term) (subst (λ (t : Tree). tree_is_formed t ≡ true) (r.bound e i) (by e.0.side e.0.var))
  where
    by : (x : Side) (v : ℕ) → tree_is_formed (of_side s x v) ≡ true
    by Left v = (most_general_formed a b h k s g v).0
    by Right v = (most_general_formed a b h k s g v).1
