-- Covered instances over a bank that grows.
use Rattle.std.proofs.Common.{◌≡◌, ◌↔◌, inl, inr, ℕ, ◌<◌, List, length, map, ap, sym, ◌∙◌, subst, arith}
use Rattle.std.specs.Prelude.{All, Any, Bool, IsTrue}
use Rattle.std.proofs.lemmas.List.{length-map}
use Rattle.inst_logic.specs.declared.signed.Signed.{Signed}
use Rattle.inst_logic.specs.Clauses.{TreeClause, canonical_form, Subsumes, IsCanonical}
use Rattle.inst_calculus.specs.Saturation.{IsCovered, tautology, variant, shorter}
use Rattle.inst_calculus.proofs.CanonicalForms.{canonical_of_canonical}
use Rattle.inst_calculus.proofs.CoveredInstances.{covered_when_renamed}
use Rattle.inst_calculus.proofs.Membership.{◌∈◌, any_in, in_any, all_in, in_all, in_map, from_map, contains_in, in_contains}
use Rattle.inst_logic.specs.Signed.{IsTautology}
use Rattle.clause_form.specs.Conclusions.{AreCanonicalIn}
use Rattle.clause_form.proofs.Ids.{variants_equal}
use Rattle.term_bank.specs.Forest.{literal_tree, Forest, AreDistinct, Extends, IsClauseOf, clause_at}
use Rattle.term_bank.proofs.Clauses.{clause_extends}
use Rattle.cert_values.specs.declared.member.Member.{Member}
use Rattle.cert_values.specs.Wholes.{IsWholeClause}
use Rattle.cert_check.specs.Covers.{Covers, CoversOf, IsCoveredIn}
use Rattle.cert_index.specs.Shorter.{ShorterOf}
use Rattle.cert_check.specs.Grounds.{AreCanonicalMembers}
use Rattle.cert_values.proofs.Grown.{members_grown}

abbrev pub clause_of : Forest → Member → TreeClause
clause_of f m = clause_at f m.clause

module _ (f g : Forest) (grown : Extends f g) (ms : List Member) (whole : All (λ m. IsWholeClause f m.clause) ms) where
  member_same : (m : Member) → m ∈ ms → clause_at g m.clause ≡ clause_at f m.clause
  member_same m i = clause_extends f g grown m.clause (all_in (λ (n : Member). IsWholeClause f n.clause) ms whole m i).ids

  pub members_later : All (λ m. IsWholeClause g m.clause) ms
  members_later = members_grown f g grown ms whole

  pub canonical_later : AreCanonicalMembers f ms → AreCanonicalMembers g ms
  canonical_later h = in_all (λ (m : Member). IsCanonical (clause_at g m.clause)) ms
      (λ m i. subst IsCanonical (sym (member_same m i)) (all_in (λ (n : Member). IsCanonical (clause_at f n.clause)) ms h m i))

  module _ (c d : List (Signed ℕ)) (e : TreeClause) (form : clause_at g d ≡ canonical_form e) where
    same_length : length (clause_at f c) ≡ length c
    same_length = length-map c (literal_tree f)

    to_members : IsCovered (map (clause_of f) ms) (clause_at f c) (clause_at g d) → IsCoveredIn g ms (length c) d
    to_members (tautology t) = inl t
    to_members (variant x i v) =
        let (m, j, same) = from_map (clause_of f) x ms (contains_in x (map (clause_of f) ms) i) in
        inr (in_any (CoversOf g (length c) d) m ms j (inl (v ∙ ap canonical_form (sym same ∙ sym (member_same m j)))))
    to_members (shorter x i less s) =
        let (m, j, same) = from_map (clause_of f) x ms (contains_in x (map (clause_of f) ms) i) in
        let n : length x < length c = omega (arith, same_length, less) in
        inr (in_any (CoversOf g (length c) d) m ms j (inr (subst (λ (y : TreeClause). (length y < length c) × Subsumes y (clause_at g d)) (sym same ∙ sym (member_same m j)) (n, s))))

    from_members : IsCoveredIn g ms (length c) d → IsCovered (map (clause_of f) ms) (clause_at f c) (clause_at g d)
    from_members (inl t) = tautology t
    from_members (inr any) = let (m, i, h) = any_in (CoversOf g (length c) d) ms any in by m i h
      where
        by : (m : Member) → m ∈ ms → Covers (length c) (clause_at g d) (clause_at g m.clause) → IsCovered (map (clause_of f) ms) (clause_at f c) (clause_at g d)
        by m i (inl v) = variant (clause_at f m.clause) (in_contains (clause_of f m) (map (clause_of f) ms) (in_map (clause_of f) m ms i)) (v ∙ ap canonical_form (member_same m i))
        by m i (inr p) =
            let q : (length (clause_at f m.clause) < length c) × Subsumes (clause_at f m.clause) (clause_at g d) =
            subst (λ (y : TreeClause). (length y < length c) × Subsumes y (clause_at g d)) (member_same m i) p in
            let n : length (clause_at f m.clause) < length (clause_at f c) = omega (arith, same_length, q.0) in
            shorter (clause_at f m.clause) (in_contains (clause_of f m) (map (clause_of f) ms) (in_map (clause_of f) m ms i)) n q.1

    -- what was found in the grown bank holds of the instance
    pub covered_in : IsCoveredIn g ms (length c) d ↔ IsCovered (map (clause_of f) ms) (clause_at f c) e
    covered_in = (
      (λ h. covered_when_renamed (map (clause_of f) ms) (clause_at f c) (clause_at g d) e (from_members h) (ap canonical_form form ∙ canonical_of_canonical e)),
      (λ h. to_members (covered_when_renamed (map (clause_of f) ms) (clause_at f c) e (clause_at g d) h (sym (ap canonical_form form ∙ canonical_of_canonical e)))),
    )

-- the members that cover a canonical clause: those with its ids, and shorter ones
module _ (f : Forest) (ms : List Member) (distinct : AreDistinct f.trees) (ids : All (λ m. IsClauseOf f m.clause) ms) (canonical : AreCanonicalMembers f ms)
    (c : List (Signed ℕ)) (inside : IsClauseOf f c) (form : IsCanonical (clause_at f c)) (n : ℕ) where
  both_canonical : (m : Member) → m ∈ ms → AreCanonicalIn f c m.clause
  both_canonical m i = record {
    distinct = distinct;
    left = inside;
    right = all_in (λ (x : Member). IsClauseOf f x.clause) ms ids m i;
    left_canonical = form;
    right_canonical = all_in (λ (x : Member). IsCanonical (clause_at f x.clause)) ms canonical m i;
  }

  pub known_covers : Any (λ (m : Member). m.clause ≡ c) ms → IsCoveredIn f ms n c
  known_covers any =
      let (m, i, same) = any_in (λ (x : Member). x.clause ≡ c) ms any in
      inr (in_any (CoversOf f n c) m ms i (inl ((variants_equal f c m.clause (both_canonical m i)).0 (sym same))))

  pub shorter_covers : (r : Bool) → ¬ IsTautology (clause_at f c) → ¬ Any (λ (m : Member). m.clause ≡ c) ms → (IsTrue r ↔ Any (ShorterOf f n c) ms) → IsTrue r ↔ IsCoveredIn f ms n c
  shorter_covers r other unknown h = (λ t. forward (h.0 t), back)
    where
      forward : Any (ShorterOf f n c) ms → IsCoveredIn f ms n c
      forward any = let (m, i, s) = any_in (ShorterOf f n c) ms any in inr (in_any (CoversOf f n c) m ms i (inr s))

      of_member : (m : Member) → m ∈ ms → CoversOf f n c m → IsTrue r
      of_member m i (inl v) = absurd (unknown (in_any (λ (x : Member). x.clause ≡ c) m ms i (sym ((variants_equal f c m.clause (both_canonical m i)).1 v))))
      of_member m i (inr s) = h.1 (in_any (ShorterOf f n c) m ms i s)

      back : IsCoveredIn f ms n c → IsTrue r
      back (inl t) = absurd (other t)
      back (inr any) = let (m, i, k) = any_in (CoversOf f n c) ms any in of_member m i k
