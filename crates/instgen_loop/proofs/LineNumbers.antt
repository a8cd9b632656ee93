-- An index of ground lines by their clauses.
use Rattle.std.proofs.Common.{◌≡◌, ℕ, suc, ◌+◌, List, [], ◌∷◌, ◌++◌, ◌⊎◌, inl, inr, refl, sym, ap, ◌∙◌, subst as transport, length, arith, nat_eq, Bool, true, false, cond, Some, None, Decides}
use Rattle.std.specs.Prelude.{slice_get}
use Rattle.std.specs.Cmp.Lexicographic.{pointwise, pointwise_decides}
use Rattle.std.specs.Map.{lookup}
use Rattle.std.proofs.lemmas.Bool.Decides.{Decides-eqb}
use Rattle.inst_logic.specs.declared.signed.Signed.{Signed}
use Rattle.inst_logic.specs.Derivations.{at_number}
use Rattle.inst_logic.specs.Equal.{signed_eq}
use Rattle.inst_logic.specs.EqualLaws.{signed_eq_decides}
use Rattle.inst_logic.proofs.ShownLaws.{at_number_append}
use Rattle.inst_calculus.proofs.Distinct.{length_map, map_append}
use Rattle.inst_calculus.proofs.Membership.{◌∈◌, contains_in, in_contains, in_either}
use Rattle.engine_laws.proofs.Lists.{slice_get_last}
use Rattle.indexmap.specs.IndexMap.{insert_entry}
use Rattle.cert_values.specs.declared.certificate.GroundLine.{GroundLine}
use Rattle.instgen_loop.specs.LineNumbers.{clauses_of, AreIndexed}

abbrev Entry : Type 0
Entry = List (Signed ℕ) × ℕ

abbrev pub same : List (Signed ℕ) → List (Signed ℕ) → Bool
same = pointwise (signed_eq nat_eq)

same_decides : (c d : List (Signed ℕ)) → Decides (same c d) (c ≡ d)
same_decides c d = pointwise_decides (signed_eq_decides nat_eq Decides-eqb) c d

-- Looking up

pub found : (es : List Entry) (c : List (Signed ℕ)) (n : ℕ) → lookup (same c) es ≡ Some n → (c, n) ∈ es
found [] c n e = absurd cc
found (x ∷ es) c n e = go (same c x.0) (same_decides c x.0) refl (found es c n)
  where
    go : (b : Bool) → Decides b (c ≡ x.0) → same c x.0 ≡ b → (lookup (same c) es ≡ Some n → (c, n) ∈ es) → (c, n) ∈ (x ∷ es)
    go true d p rest =
        let q : x.1 ≡ n = some_same x.1 n (sym (ap (λ a. cond a (Some x.1) (lookup (same c) es)) p) ∙ e) in
        let w = d.0 refl in inl (λ i. (w i, sym q i))
      where
        some_same : (a b : ℕ) → Some a ≡ Some b → a ≡ b
        some_same a b k = cc
    go false d p rest = inr (rest (sym (ap (λ a. cond a (Some x.1) (lookup (same c) es)) p) ∙ e))

pub not_missing : (es : List Entry) (c : List (Signed ℕ)) (n : ℕ) → (c, n) ∈ es → ¬ (lookup (same c) es ≡ None)
not_missing [] c n i e = absurd i
not_missing (x ∷ es) c n i e = go (same c x.0) (same_decides c x.0) refl i (not_missing es c n)
  where
    go : (b : Bool) → Decides b (c ≡ x.0) → same c x.0 ≡ b → (c, n) ∈ (x ∷ es) → ((c, n) ∈ es → ¬ (lookup (same c) es ≡ None)) → ⊥
    go true d p i rest = let q = sym (ap (λ a. cond a (Some x.1) (lookup (same c) es)) p) ∙ e in absurd cc
    go false d p (inl w) rest = let k : c ≡ x.0 = ap (λ (y : Entry). y.0) w in let z : false ≡ true = d.1 k in absurd cc
    go false d p (inr j) rest = rest j (sym (ap (λ a. cond a (Some x.1) (lookup (same c) es)) p) ∙ e)

-- Inserting

inserted_from : (es : List Entry) (c : List (Signed ℕ)) (n : ℕ) (y : Entry) → y ∈ insert_entry same es c n → (y ∈ es) ⊎ (y ≡ (c, n))
inserted_from [] c n y (inl e) = inr e
inserted_from [] c n y (inr i) = absurd i
inserted_from (x ∷ es) c n y i = go (same c x.0) (same_decides c x.0) i (inserted_from es c n y)
  where
    go : (b : Bool) → Decides b (c ≡ x.0) → y ∈ cond b ((x.0, n) ∷ es) (x ∷ insert_entry same es c n) → (y ∈ insert_entry same es c n → (y ∈ es) ⊎ (y ≡ (c, n))) → (y ∈ (x ∷ es)) ⊎ (y ≡ (c, n))
    go true d (inl e) rest = let w = d.0 refl in inr (e ∙ λ i. (sym w i, n))
    go true d (inr j) rest = inl (inr j)
    go false d (inl e) rest = inl (inl e)
    go false d (inr j) rest = elim (rest j) [ inl k ↦ inl (inr k) | inr e ↦ inr e ]

inserted_key : (es : List Entry) (c : List (Signed ℕ)) (n : ℕ) → (c, n) ∈ insert_entry same es c n
inserted_key [] c n = inl refl
inserted_key (x ∷ es) c n = go (same c x.0) (same_decides c x.0) (inserted_key es c n)
  where
    go : (b : Bool) → Decides b (c ≡ x.0) → (c, n) ∈ insert_entry same es c n → (c, n) ∈ cond b ((x.0, n) ∷ es) (x ∷ insert_entry same es c n)
    go true d rest = let w = d.0 refl in inl (λ i. (w i, n))
    go false d rest = inr rest

inserted_old : (es : List Entry) (c d : List (Signed ℕ)) (n m : ℕ) → (d, m) ∈ es → (k : ℕ) × ((d, k) ∈ insert_entry same es c n)
inserted_old [] c d n m i = absurd i
inserted_old (x ∷ es) c d n m i = go (same c x.0) i (inserted_old es c d n m)
  where
    go : (b : Bool) → (d, m) ∈ (x ∷ es) → ((d, m) ∈ es → (k : ℕ) × ((d, k) ∈ insert_entry same es c n)) → (k : ℕ) × ((d, k) ∈ cond b ((x.0, n) ∷ es) (x ∷ insert_entry same es c n))
    go true (inl e) rest = let w : d ≡ x.0 = ap (λ (y : Entry). y.0) e in (n, inl (λ i. (w i, n)))
    go true (inr j) rest = (m, inr j)
    go false (inl e) rest = (m, inl e)
    go false (inr j) rest = let (k, l) = rest j in (k, inr l)

-- one more line
pub one_more_indexed : (lines : List GroundLine) (l : GroundLine) (es ns : List Entry) (n : ℕ) → n ≡ length lines + 1 → ns ≡ insert_entry same es l.clause n → AreIndexed lines es → AreIndexed (lines ++ l ∷ []) ns
one_more_indexed lines l es ns n count e h = transport (AreIndexed (lines ++ l ∷ [])) (sym e) (record {
  numbers = λ c m i. elim (inserted_from es l.clause n (c, m) (contains_in (c, m) (insert_entry same es l.clause n) i)) [
    | inl j ↦ earlier m c (h.numbers c m (in_contains (c, m) es j))
    | inr q ↦
        let w : c ≡ l.clause = ap (λ (y : Entry). y.0) q in
        let z : m ≡ suc (length lines) = let u : m ≡ n = ap (λ (y : Entry). y.1) q in omega arith in
        ap (at_number (clauses_of (lines ++ l ∷ []))) z ∙ last ∙ ap Some (sym w)
  ];
  all = λ c i. elim (in_either c (clauses_of lines) (l.clause ∷ []) (transport (λ cs. c ∈ cs) more (contains_in c (clauses_of (lines ++ l ∷ [])) i))) [
    | inl j ↦ let (m, k) = h.all c (in_contains c (clauses_of lines) j) in let (x, y) = inserted_old es l.clause c n m (contains_in (c, m) es k) in (x, in_contains (c, x) (insert_entry same es l.clause n) y)
    | inr (inl w) ↦ (n, in_contains (c, n) (insert_entry same es l.clause n) (transport (λ d. (d, n) ∈ insert_entry same es l.clause n) (sym w) (inserted_key es l.clause n)))
    | inr (inr j) ↦ absurd j
  ];
})
  where
    more : clauses_of (lines ++ l ∷ []) ≡ clauses_of lines ++ l.clause ∷ []
    more = map_append (λ (x : GroundLine). x.clause) lines (l ∷ [])

    earlier : (m : ℕ) (c : List (Signed ℕ)) → at_number (clauses_of lines) m ≡ Some c → at_number (clauses_of (lines ++ l ∷ [])) m ≡ Some c
    earlier m c p = ap (λ cs. at_number cs m) more ∙ at_number_append (clauses_of lines) (l.clause ∷ []) m c p

    last : at_number (clauses_of (lines ++ l ∷ [])) (suc (length lines)) ≡ Some l.clause
    last = ap (λ cs. slice_get cs (length lines)) more ∙ ap (slice_get (clauses_of lines ++ l.clause ∷ [])) (sym (length_map (λ (x : GroundLine). x.clause) lines)) ∙ slice_get_last (clauses_of lines) l.clause
