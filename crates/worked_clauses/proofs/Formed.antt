-- Applications that are terms and atoms, and a clause of one atom.
use Rattle.std.proofs.Common.{◌≡◌, ℕ, ◌<◌, refl, true, false, List, [], ◌∷◌, ◌++◌, inl, inr, sym, subst, ◌∙◌, ap, length}
use Rattle.std.specs.Prelude.{Bool, ◌||◌, All, IfOk, Result, Ok, Err}
use Rattle.inst_logic.specs.declared.symbol.Sym.{Sym}
use Rattle.inst_logic.specs.declared.symbol.Kind.TheVariants.{Function, Predicate}
use Rattle.inst_logic.specs.declared.signed.Signed.{Signed}
use Rattle.inst_logic.specs.Tree.{Tree, app, none, more}
use Rattle.inst_logic.specs.WellFormed.{IsTerm, IsAtom, tree_is_formed, atom_is_formed}
use Rattle.inst_calculus.proofs.Membership.{in_all}
use Rattle.term_bank.specs.Forest.{Forest, IsFormed, tree_at}
use Rattle.cert_values.specs.Wholes.{IsWholeClause}
use Rattle.worked_clauses.specs.Shared.{IsAtomOf}
use Rattle.inst_logic.proofs.Booleans.{or_right}

pub term_formed : (t : Tree) → IsTerm t → IsFormed t
term_formed t h = rw h refl

pub atom_formed : (t : Tree) → IsAtom t → IsFormed t
atom_formed t h = or_right (tree_is_formed t) (atom_is_formed t) h

pub constant_is_term : (s : Sym) → s.kind ≡ Function → s.arity ≡ 0 → IsTerm (app s none)
constant_is_term s k a = rw (k, a) refl

pub twice_is_term : (s : Sym) (t : Tree) → s.kind ≡ Function → s.arity ≡ 2 → IsTerm t → IsTerm (app s (more t (more t none)))
twice_is_term s t k a h = rw (k, a, h) refl

pub once_is_atom : (s : Sym) (t : Tree) → s.kind ≡ Predicate → s.arity ≡ 1 → IsTerm t → IsAtom (app s (more t none))
once_is_atom s t k a h = rw (k, a, h) refl

one_whole : (f : Forest) (l : Signed ℕ) → IsAtomOf f l.atom → All (IsWholeClause f) ((l ∷ []) ∷ [])
one_whole f l h = in_all (IsWholeClause f) ((l ∷ []) ∷ []) (λ c i. elim i [ inl e ↦ subst (IsWholeClause f) (sym e) whole | inr b ↦ absurd b ])
  where
    whole : IsWholeClause f (l ∷ [])
    whole = record {
      ids = in_all (λ (m : Signed ℕ). m.atom < length f.trees) (l ∷ []) (λ m j. elim j [ inl e ↦ subst (λ (x : Signed ℕ). x.atom < length f.trees) (sym e) h.0 | inr b ↦ absurd b ]);
      atoms = in_all (λ (m : Signed ℕ). IsAtom (tree_at f m.atom)) (l ∷ []) (λ m j. elim j [ inl e ↦ subst (λ (x : Signed ℕ). IsAtom (tree_at f x.atom)) (sym e) h.1 | inr b ↦ absurd b ]);
    }

-- the only clause has the atom as its only literal
pub only_whole : (f : Forest) (l : Signed ℕ) (none_yet c : List (Signed ℕ)) (empty cs : List (List (Signed ℕ))) → none_yet ≡ [] → c ≡ none_yet ++ l ∷ [] → empty ≡ [] → cs ≡ empty ++ c ∷ [] → IsAtomOf f l.atom → All (IsWholeClause f) cs
only_whole f l none_yet c empty cs e is n all_is h =
    let one : c ≡ l ∷ [] = is ∙ ap (λ (x : List (Signed ℕ)). x ++ l ∷ []) e in
    let all : cs ≡ (l ∷ []) ∷ [] = all_is ∙ ap (λ (x : List (List (Signed ℕ))). x ++ c ∷ []) n ∙ ap (λ (x : List (Signed ℕ)). x ∷ []) one in
    subst (All (IsWholeClause f)) (sym all) (one_whole f l h)
