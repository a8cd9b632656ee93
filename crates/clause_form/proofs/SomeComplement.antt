-- Complementary literals, found in the set of a clause's literals.
use Rattle.std.proofs.Common.{◌≡◌, ℕ, ◌+◌, ◌<◌, List, [], ◌∷◌, ◌++◌, inl, inr, refl, sym, ap, subst, ◌∙◌, ◌↔◌, IsTrue, Bool, true, false, length, take, get_or}
use Rattle.std.specs.Prelude.{◌||◌}
use Rattle.std.specs.List.{list_any, Any}
use Rattle.std.proofs.lemmas.List.{take_more}
use Rattle.indexmap.proofs.CallerLemmas.{Contains-list_any}
use Rattle.inst_logic.specs.declared.signed.Signed.{Signed}
use Rattle.inst_logic.specs.Signed.{IsTautology, complement}
use Rattle.inst_logic.specs.Lists.{distinct, with_item}
use Rattle.inst_logic.proofs.Distinct.{distinct_more}
use Rattle.inst_calculus.proofs.Membership.{◌∈◌, contains_in, in_contains, any_in, in_any}
use Rattle.inst_calculus.proofs.Distinct.{from_distinct, in_distinct}
use Rattle.clause_form.specs.Literals.{id_eq}
use Rattle.clause_form.proofs.Assembly.{id_eq_decides}

-- one more literal, where it is not there
pub one_more : (ls : List (Signed ℕ)) (i : ℕ) (l : Signed ℕ) (ks ns : List (Signed ℕ)) → i < length ls → l ≡ get_or ls i l
    → ks ≡ distinct id_eq (take i ls) → ns ≡ with_item id_eq ks l → ns ≡ distinct id_eq (take (i + 1) ls)
one_more ls i l ks ns less same before added =
    added ∙ ap (λ (zs : List (Signed ℕ)). with_item id_eq zs l) before ∙ sym (distinct_more id_eq id_eq_decides (take i ls) l)
    ∙ ap (distinct id_eq) (ap (λ (x : Signed ℕ). take i ls ++ x ∷ []) same ∙ sym (take_more ls i l less))

found_in : (k : Signed ℕ) (ks : List (Signed ℕ)) → k ∈ ks → list_any (id_eq k) ks ≡ true
found_in k [] i = absurd i
found_in k (x ∷ xs) (inl e) = ap (λ b. b || list_any (id_eq k) xs) ((id_eq_decides k x).1 e)
found_in k (x ∷ xs) (inr i) = by (id_eq k x) (found_in k xs i)
  where
    by : (b : Bool) → list_any (id_eq k) xs ≡ true → (b || list_any (id_eq k) xs) ≡ true
    by true e = refl
    by false e = e

-- a clause is a tautology where the complement of some literal is in the set of them
pub some_complement : (c ks : List (Signed ℕ)) → ks ≡ distinct id_eq c → Any (λ l. IsTrue (list_any (id_eq (complement l)) ks)) c ↔ IsTautology c
some_complement c ks e = (
  (λ h.
      let (l, i, t) = any_in (λ (l : Signed ℕ). IsTrue (list_any (id_eq (complement l)) ks)) c h in
      let j = contains_in (complement l) ks (Contains-list_any id_eq (λ x y. (id_eq_decides x y).0) ks (complement l) t) in
      (l, in_contains l c i, in_contains (complement l) c (from_distinct id_eq id_eq_decides (complement l) c (subst (λ (xs : List (Signed ℕ)). complement l ∈ xs) e j)))),
  (λ (l, a, b).
      let j = in_distinct id_eq id_eq_decides (complement l) c (contains_in (complement l) c b) in
      in_any (λ (l : Signed ℕ). IsTrue (list_any (id_eq (complement l)) ks)) l c (contains_in l c a) (found_in (complement l) ks (subst (λ (xs : List (Signed ℕ)). complement l ∈ xs) (sym e) j))),
)
