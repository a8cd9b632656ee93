-- Lists of clauses and their ids.
use Rattle.std.proofs.Common.{◌≡◌, ℕ, ◌+◌, ◌<◌, List, [], ◌∷◌, ◌++◌, ap, ap₂, sym, ◌∙◌, map, subst, inl, inr, length, take, get_or}
use Rattle.std.specs.Prelude.{All}
use Rattle.std.specs.List.{list_all}
use Rattle.std.proofs.lemmas.List.{map-append, take_more}
use Rattle.std.proofs.lemmas.List.Folds.{list_all-append}
use Rattle.inst_logic.specs.declared.signed.Signed.{Signed}
use Rattle.inst_logic.specs.Clauses.{TreeClause}
use Rattle.inst_logic.specs.WellFormed.{IsAtom, IsFormedClause, AreFormedClauses, clause_is_formed, atom_is_formed}
use Rattle.inst_logic.proofs.SameLemmas.{and_right}
use Rattle.inst_calculus.specs.Axioms.{equality_axioms, with_axioms}
use Rattle.inst_calculus.proofs.Membership.{◌∈◌, all_in, in_all, in_either, all_pass, from_map}
use Rattle.term_bank.specs.Forest.{Forest, Extends, IsClauseOf, clause_at, tree_at}
use Rattle.term_bank.proofs.Clauses.{clause_of_extends, clauses_extend}
use Rattle.cert_values.specs.Wholes.{IsWholeClause}

-- one more clause
pub one_more_at : (f g : Forest) → Extends f g → (cs : List (List (Signed ℕ))) (c : List (Signed ℕ)) (trees : List TreeClause) (i : ℕ) (d : TreeClause) → All (IsClauseOf f) cs
    → map (clause_at f) cs ≡ take i trees → i < length trees → d ≡ get_or trees i d → clause_at g c ≡ d → map (clause_at g) (cs ++ c ∷ []) ≡ take (i + 1) trees
one_more_at f g grown cs c trees i d ids at within is here =
    map-append (clause_at g) cs (c ∷ []) ∙ ap₂ (λ xs x. xs ++ x ∷ []) (clauses_extend f g grown cs (all_in (IsClauseOf f) cs ids) ∙ at) (here ∙ is) ∙ sym (take_more trees i d within)

pub one_more_in : (f g : Forest) → Extends f g → (cs : List (List (Signed ℕ))) (c : List (Signed ℕ)) → All (IsClauseOf f) cs → IsClauseOf g c → All (IsClauseOf g) (cs ++ c ∷ [])
one_more_in f g grown cs c ids here = in_all (IsClauseOf g) (cs ++ c ∷ []) each
  where
    each : (d : List (Signed ℕ)) → d ∈ (cs ++ c ∷ []) → IsClauseOf g d
    each d i = elim (in_either d cs (c ∷ []) i) [ inl k ↦ clause_of_extends f g grown d (all_in (IsClauseOf f) cs ids d k) | inr (inl e) ↦ subst (IsClauseOf g) (sym e) here | inr (inr b) ↦ absurd b ]

-- whole clauses are formed
pub whole_formed : (f : Forest) (c : List (Signed ℕ)) → IsWholeClause f c → IsFormedClause (clause_at f c)
whole_formed f c h = all_pass (λ l. atom_is_formed l.atom) (clause_at f c) (λ l i.
    let k = from_map (λ (x : Signed ℕ). record { positive = x.positive; atom = tree_at f x.atom }) l c i in
    ap (λ x. atom_is_formed x.atom) (sym k.2) ∙ all_in (λ (m : Signed ℕ). IsAtom (tree_at f m.atom)) c h.atoms k.0 k.1)

pub wholes_formed : (f : Forest) (cs : List (List (Signed ℕ))) → All (IsWholeClause f) cs → AreFormedClauses (map (clause_at f) cs)
wholes_formed f cs h = all_pass clause_is_formed (map (clause_at f) cs) (λ d i.
    let k = from_map (clause_at f) d cs i in
    ap clause_is_formed (sym k.2) ∙ whole_formed f k.0 (all_in (IsWholeClause f) cs h k.0 k.1))

pub axioms_part : (cs : List TreeClause) → AreFormedClauses (with_axioms cs) → AreFormedClauses (equality_axioms cs)
axioms_part cs h = and_right (list_all clause_is_formed cs) (list_all clause_is_formed (equality_axioms cs)) (sym (list_all-append clause_is_formed cs (equality_axioms cs)) ∙ h)
