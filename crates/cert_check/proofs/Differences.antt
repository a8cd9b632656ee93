-- The first place where two lists differ, as ids and as trees.
use Rattle.std.proofs.Common.{◌≡◌, ℕ, zero, suc, ◌+◌, ◌<◌, ◌≤◌, List, refl, ap, sym, ◌∙◌, map, subst, arith, ◌⊎◌, inl, inr, length, Option, None, Some}
use Rattle.std.specs.Prelude.{All, slice_get, option_map}
use Rattle.std.proofs.lemmas.Option.{slice_get-map}
use Rattle.inst_logic.specs.declared.signed.Signed.{Signed}
use Rattle.inst_logic.specs.Derivations.{at_number}
use Rattle.inst_calculus.proofs.Membership.{all_in, contains_in}
use Rattle.inst_logic.proofs.ShownLaws.{at_number_contains}
use Rattle.term_bank.specs.Forest.{Forest, AreDistinct, IsClauseOf, clause_at}
use Rattle.cert_check.specs.Firsts.{IsFirstWrong, IsFirstWrongOf}
pub use Rattle.clause_form.proofs.Ids.{same_ids}
use Rattle.std.proofs.lemmas.Option.{slice_get_past}

pub first_same : (P Q : ℕ → Type 0) → ((n : ℕ) → P n → Q n) → ((n : ℕ) → Q n → P n) → (r : Option ℕ) → IsFirstWrongOf P r → IsFirstWrongOf Q r
first_same P Q to from None h = λ n. to n (h n)
first_same P Q to from (Some n) h = record { applies = λ q. h.applies (from n q); before = λ m b. to m (h.before m b) }

module _ {A : Type 0} (xs ys : List A) where
  pub no_difference : (n : ℕ) → length xs ≤ n → length ys ≤ n → ((k : ℕ) → k < n → slice_get xs k ≡ slice_get ys k) → (m : ℕ) → at_number xs m ≡ at_number ys m
  no_difference n a b h zero = refl
  no_difference n a b h (suc k) = elim (lt_or_le k n) [ inl l ↦ h k l | inr g ↦ slice_get_past xs k (omega arith) ∙ sym (slice_get_past ys k (omega arith)) ]
    where
      lt_or_le : (i j : ℕ) → (i < j) ⊎ (j ≤ i)
      lt_or_le i zero = inr (omega arith)
      lt_or_le zero (suc j) = inl (omega arith)
      lt_or_le (suc i) (suc j) = elim (lt_or_le i j) [ inl l ↦ inl (omega arith) | inr g ↦ inr (omega arith) ]

  pub first_difference : (i : ℕ) → ((k : ℕ) → k < i → slice_get xs k ≡ slice_get ys k) → ¬ (slice_get xs i ≡ slice_get ys i) → IsFirstWrong (λ n. at_number xs n ≡ at_number ys n) (i + 1)
  first_difference i h differ = subst (IsFirstWrong (λ n. at_number xs n ≡ at_number ys n)) (omega arith) at
    where
      before : (m : ℕ) → m < suc i → at_number xs m ≡ at_number ys m
      before zero b = refl
      before (suc k) b = h k (omega arith)

      at : IsFirstWrong (λ n. at_number xs n ≡ at_number ys n) (suc i)
      at = record { applies = differ; before = before }

module _ (f : Forest) (once : AreDistinct f.trees) where
  number_map : (cs : List (List (Signed ℕ))) (n : ℕ) → at_number (map (clause_at f) cs) n ≡ option_map (clause_at f) (at_number cs n)
  number_map cs zero = refl
  number_map cs (suc k) = slice_get-map (clause_at f) cs k

  same_option : (x y : Option (List (Signed ℕ))) → ((c : List (Signed ℕ)) → x ≡ Some c → IsClauseOf f c) → ((c : List (Signed ℕ)) → y ≡ Some c → IsClauseOf f c)
      → option_map (clause_at f) x ≡ option_map (clause_at f) y → x ≡ y
  same_option None None a b e = refl
  same_option None (Some d) a b e = absurd (cc)
  same_option (Some c) None a b e = absurd (cc)
  same_option (Some c) (Some d) a b e = let k : clause_at f c ≡ clause_at f d = cc in ap (λ z. Some z) (same_ids f once c d (a c refl) (b d refl) k)

  -- the first place where the clauses of ids differ is that where the clauses of trees do
  pub first_of_trees : (cs ds : List (List (Signed ℕ))) → All (IsClauseOf f) cs → All (IsClauseOf f) ds → (r : Option ℕ)
      → IsFirstWrongOf (λ n. at_number cs n ≡ at_number ds n) r → IsFirstWrongOf (λ n. at_number (map (clause_at f) cs) n ≡ at_number (map (clause_at f) ds) n) r
  first_of_trees cs ds in_cs in_ds r h =
      first_same (λ n. at_number cs n ≡ at_number ds n) (λ n. at_number (map (clause_at f) cs) n ≡ at_number (map (clause_at f) ds) n)
      (λ n e. number_map cs n ∙ ap (option_map (clause_at f)) e ∙ sym (number_map ds n))
      (λ n e.
      same_option (at_number cs n) (at_number ds n) (λ c at. each cs in_cs n c at) (λ d at. each ds in_ds n d at)
      (sym (number_map cs n) ∙ e ∙ number_map ds n))
      r h
    where
      each : (es : List (List (Signed ℕ))) → All (IsClauseOf f) es → (n : ℕ) (c : List (Signed ℕ)) → at_number es n ≡ Some c → IsClauseOf f c
      each es all n c at = all_in (IsClauseOf f) es all c (contains_in c es (at_number_contains es n c at))
