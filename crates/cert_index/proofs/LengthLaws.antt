-- Members in the order of their numbers of literals.
use Rattle.std.proofs.Common.{◌≡◌, ℕ, ◌+◌, ◌<◌, ◌∙◌, List, [], ◌∷◌, ◌++◌, length, subst, arith, below_more}
use Rattle.std.specs.Prelude.{Any, unwrap_or}
use Rattle.std.specs.List.Sorted.{IsPermutation}
use Rattle.std.proofs.lemmas.List.{length-map}
use Rattle.std.proofs.lemmas.List.Quantifiers.{Any-push}
use Rattle.std.proofs.lemmas.List.Sorted.{Contains-permutation}
use Rattle.indexmap.specs.IndexMap.{get}
use Rattle.inst_logic.proofs.Membership.{any_in, in_any, in_left, contains_in, in_contains}
use Rattle.clause_form.specs.Literals.{id_eq}
use Rattle.cert_values.specs.declared.member.Member.{Member}
use Rattle.cert_index.specs.declared.lengths.Lengths.{Lengths}
use Rattle.cert_index.specs.declared.lengths.Ranked.{Ranked}
use Rattle.cert_index.specs.Lengths.{AreGrouped, AreRanked, heads_by}
use Rattle.cert_index.specs.Partners.{AreChained, Head, IsNext, head_at}

-- one more member
pub one_more_rank : (rs : List Ranked) (r : Ranked) (k : ℕ) → r.place ≡ k → ((i : ℕ) → i < k → Any (λ (q : Ranked). q.place ≡ i) rs) → (i : ℕ) → i < k + 1 → Any (λ (q : Ranked). q.place ≡ i) (rs ++ r ∷ [])
one_more_rank rs r k is before =
    below_more (λ i. Any (λ (q : Ranked). q.place ≡ i) (rs ++ r ∷ [])) k
    (λ i less. let (q, there, at) = any_in (λ (q : Ranked). q.place ≡ i) rs (before i less) in in_any (λ (q : Ranked). q.place ≡ i) q (rs ++ r ∷ []) (in_left q rs (r ∷ []) there) at)
    (Any-push (λ (q : Ranked). q.place ≡ k) rs r is)

pub any_moved : {A : Type 0} (P : A → Type 0) (xs ys : List A) → IsPermutation xs ys → Any P xs → Any P ys
any_moved P xs ys moved any =
    let (x, there, p) = any_in P xs any in
    in_any P x ys (contains_in x ys (Contains-permutation xs ys x moved (in_contains x xs there))) p

-- chains through the heads in the order of the ranks
pub grouped : (ms : List Member) (hs os : List Head) (l : Lengths) → AreRanked ms l.ranked.items → os ≡ heads_by hs l.ranked.items → AreChained os l.same.items 0
    → ((h : Head) → IsNext os h 0 (unwrap_or (get id_eq l.first h) (length os))) → AreGrouped ms hs l
grouped ms hs os l ranked is chained first =
    let rs = l.ranked.items in
    let count : length (heads_by hs rs) ≡ length rs = length-map rs (λ (r : Ranked). head_at hs r.place) in
    let here : AreChained (heads_by hs rs) l.same.items 0 = subst (λ xs. AreChained xs l.same.items 0) is chained in
    let start : (h : Head) → IsNext (heads_by hs rs) h 0 (unwrap_or (get id_eq l.first h) (length (heads_by hs rs))) = subst (λ xs. (h : Head) → IsNext xs h 0 (unwrap_or (get id_eq l.first h) (length xs))) is first in
    record {
      ranked = ranked;
      same_length = here.same_length ∙ count;
      to_same = λ j less. here.to_same j (omega arith) (omega arith);
      to_first = λ h. subst (λ n. IsNext (heads_by hs rs) h 0 (unwrap_or (get id_eq l.first h) n)) count (start h);
    }
