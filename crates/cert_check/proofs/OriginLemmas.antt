-- What an origin from the inputs gives.
use Rattle.std.proofs.Common.{◌≡◌, ℕ, zero, suc, ◌≤◌, List, [], ◌∷◌, refl, ap, sym, subst, ◌∙◌, map, arith, length}
use Rattle.std.specs.Prelude.{option_map, ◌↔◌}
use Rattle.std.proofs.lemmas.Option.{slice_get-map}
use Rattle.inst_logic.specs.declared.signed.Signed.{Signed}
use Rattle.inst_logic.specs.Clauses.{TreeClause, canonical_form, numbered, order_of}
use Rattle.inst_logic.specs.Equal.{literal_eq}
use Rattle.inst_logic.specs.Lists.{distinct}
use Rattle.inst_logic.specs.Substitution.{clause_vars}
use Rattle.inst_logic.specs.Tree.{Tree, var}
use Rattle.inst_calculus.proofs.Clauses.{literal_var, literals_agree}
use Rattle.inst_logic.specs.Derivations.{at_number}
use Rattle.inst_calculus.proofs.Membership.{◌∈◌}
use Rattle.term_bank.specs.Forest.{Forest, AreDistinct, Extends, IsClauseOf, clause_at}
use Rattle.term_bank.proofs.Clauses.{clause_extends, clause_of_extends}
use Rattle.clause_form.proofs.Ids.{same_ids}

-- the ids of the canonical form are those of the clause where their trees are equal
pub same_form : (f g : Forest) → Extends f g → AreDistinct g.trees → (from clause d : List (Signed ℕ)) → IsClauseOf f clause → IsClauseOf g d
    → clause_at g d ≡ canonical_form (clause_at f from) → (d ≡ clause) ↔ (clause_at f clause ≡ canonical_form (clause_at f from))
same_form f g grown once from clause d in_clause in_d at = (
  (λ e. sym (clause_extends f g grown clause in_clause) ∙ ap (clause_at g) (sym e) ∙ at),
  (λ e. same_ids g once d clause in_d (clause_of_extends f g grown clause in_clause) (at ∙ sym e ∙ sym (clause_extends f g grown clause in_clause))),
)

-- a literal without variables is in canonical form
pub plain_form : (c : TreeClause) → length c ≤ 1 → clause_vars c ≡ [] → canonical_form c ≡ c
plain_form [] short empty = refl
plain_form (l ∷ []) short empty =
    ap (distinct literal_eq) (literals_agree (numbered (order_of (l ∷ []))) var (l ∷ []) (λ v i. absurd (subst (λ (vs : List ℕ). v ∈ vs) empty i)) ∙ ap (λ (k : Signed Tree). k ∷ []) (literal_var l))
plain_form (l ∷ m ∷ c) short empty = absurd (omega arith)

-- and so are its ids those of the canonical form
pub own_form : (f : Forest) → AreDistinct f.trees → (from clause : List (Signed ℕ)) → IsClauseOf f from → IsClauseOf f clause → canonical_form (clause_at f from) ≡ clause_at f from
    → (from ≡ clause) ↔ (clause_at f clause ≡ canonical_form (clause_at f from))
own_form f once from clause in_from in_clause form = (
  (λ e. ap (clause_at f) (sym e) ∙ sym form),
  (λ e. same_ids f once from clause in_from in_clause (sym form ∙ sym e)),
)

pub number_map : (f : Forest) (cs : List (List (Signed ℕ))) (n : ℕ) → at_number (map (clause_at f) cs) n ≡ option_map (clause_at f) (at_number cs n)
number_map f cs zero = refl
number_map f cs (suc k) = slice_get-map (clause_at f) cs k
