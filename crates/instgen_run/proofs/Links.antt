-- The solver and the entries stay linked.
use Rattle.std.proofs.Common.{◌≡◌, ◌⊎◌, inl, inr, ℕ, List, [], ◌∷◌, ◌++◌, sym, ap, ◌∙◌, subst as transport, map, fold, length, Bool, true, false, cond, nat_eq, All}
use Rattle.std.specs.List.{list_any}
use Rattle.inst_logic.specs.Lists.{with_item}
use Rattle.inst_logic.proofs.Membership.{in_push, in_last}
use Rattle.inst_calculus.proofs.Membership.{◌∈◌, all_in, in_all, contains_in, in_contains, in_left, in_map, from_map}
use Rattle.inst_logic.specs.declared.symbol.Sym.{Sym}
use Rattle.inst_logic.specs.declared.signed.Signed.{Signed}
use Rattle.inst_logic.specs.Tree.{Tree}
use Rattle.inst_logic.specs.Clauses.{TreeClause}
use Rattle.inst_calculus.proofs.Distinct.{map_append, length_map}
use Rattle.term_bank.specs.Forest.{Forest, tree_at, AreIds, Extends}
use Rattle.prop_logic.specs.Literal.{AtomsBelow}
use Rattle.inst_calculus.specs.Abstraction.{AreAbstracted, named_literal, abstract_literals}
use Rattle.inst_calculus.proofs.NumberedAbstractions.{abstracted_grows, one_more_abstracted}
use Rattle.ground_abs.specs.Abstracts.{atoms_in, AreNumbered, Grows}
use Rattle.instgen_run.specs.Grounds.{IsUsed}
use Rattle.term_bank.proofs.Growth.{map_extends}

-- the numbered atoms keep their numbers
pub atoms_grow : (f g : Forest) (ids later : List ℕ) → Extends f g → AreIds f ids → Grows ids later → (more : List Tree) × (atoms_in g later ≡ atoms_in f ids ++ more)
atoms_grow f g ids later e h (more, q) = (
  map (tree_at g) more,
  ap (map (tree_at g)) q ∙ map_append (tree_at g) ids more ∙ ap (λ xs. xs ++ map (tree_at g) more) (map_extends f g ids e h),
)

pub one_more_linked : (f g : Forest) (ids later : List ℕ) (bot : Sym) (literals : List (List (Signed ℕ))) (cs : List TreeClause) (lits : List (Signed ℕ)) (c : TreeClause)
    → Extends f g → AreIds f ids → Grows ids later → AreAbstracted bot (atoms_in f ids) literals cs → AtomsBelow (length later) lits
    → map (named_literal (atoms_in g later)) lits ≡ abstract_literals bot c → AreAbstracted bot (atoms_in g later) (literals ++ lits ∷ []) (cs ++ c ∷ [])
one_more_linked f g ids later bot literals cs lits c e h grows old below same =
    let (more, q) = atoms_grow f g ids later e h grows in
    one_more_abstracted bot (atoms_in g later) literals cs lits c
    (transport (λ atoms. AreAbstracted bot atoms literals cs) (sym q) (abstracted_grows bot (atoms_in f ids) more literals cs old))
    (transport (λ n. AtomsBelow n lits) (sym (length_map (tree_at g) later)) below) same

-- Atoms that are used

from_with_item : (xs : List ℕ) (y x : ℕ) → x ∈ with_item nat_eq xs y → (x ∈ xs) ⊎ (x ≡ y)
from_with_item xs y x = by (list_any (λ z. nat_eq z y) xs)
  where
    by : (b : Bool) → x ∈ cond b xs (xs ++ y ∷ []) → (x ∈ xs) ⊎ (x ≡ y)
    by true i = inl i
    by false i = in_push x y xs i

from_with_items : (xs ys : List ℕ) (x : ℕ) → x ∈ fold (with_item nat_eq) xs ys → (x ∈ xs) ⊎ (x ∈ ys)
from_with_items xs [] x i = inl i
from_with_items xs (y ∷ ys) x i = elim (from_with_items (with_item nat_eq xs y) ys x i) [
  | inr j ↦ inr (inr j)
  | inl j ↦ elim (from_with_item xs y x j) [ inl k ↦ inl k | inr e ↦ inr (inl e) ]
]

used_more : (bot : Sym) (cs : List TreeClause) (c : TreeClause) (t : Tree) → IsUsed bot cs t → IsUsed bot (cs ++ c ∷ []) t
used_more bot cs c t u = record {
  clause = u.clause;
  literal = u.literal;
  listed = in_contains u.clause (cs ++ c ∷ []) (in_left u.clause cs (c ∷ []) (contains_in u.clause cs u.listed));
  among = u.among;
  atom = u.atom;
}

used_here : (bot : Sym) (cs : List TreeClause) (c : TreeClause) (t : Tree) → t ∈ map (λ l. l.atom) (abstract_literals bot c) → IsUsed bot (cs ++ c ∷ []) t
used_here bot cs c t i =
    let (l, j, e) = from_map (λ (l : Signed Tree). l.atom) t (abstract_literals bot c) i in
    record { clause = c; literal = l; listed = in_contains c (cs ++ c ∷ []) (in_last c cs); among = in_contains l (abstract_literals bot c) j; atom = e }

-- an atom with a number had it before, or is one of the clause
pub one_more_used : (f g : Forest) (ids later : List ℕ) (bot : Sym) (cs : List TreeClause) (c : TreeClause) → Extends f g → AreIds f ids → AreNumbered g ids later (abstract_literals bot c)
    → All (IsUsed bot cs) (atoms_in f ids) → All (IsUsed bot (cs ++ c ∷ [])) (atoms_in g later)
one_more_used f g ids later bot cs c e h n used = in_all (IsUsed bot (cs ++ c ∷ [])) (atoms_in g later) each
  where
    by : (t : Tree) (a : ℕ) → tree_at g a ≡ t → (a ∈ ids) ⊎ (a ∈ n.ids) → IsUsed bot (cs ++ c ∷ []) t
    by t a q (inl k) = used_more bot cs c t (all_in (IsUsed bot cs) (atoms_in f ids) used t
        (transport (λ ts. t ∈ ts) (map_extends f g ids e h) (transport (λ x. x ∈ map (tree_at g) ids) q (in_map (tree_at g) a ids k))))
    by t a q (inr k) = used_here bot cs c t (transport (λ ts. t ∈ ts) n.trees (transport (λ x. x ∈ map (tree_at g) n.ids) q (in_map (tree_at g) a n.ids k)))

    each : (t : Tree) → t ∈ atoms_in g later → IsUsed bot (cs ++ c ∷ []) t
    each t i = let (a, j, q) = from_map (tree_at g) t later i in by t a q (from_with_items ids n.ids a (transport (λ xs. a ∈ xs) n.numbered j))
