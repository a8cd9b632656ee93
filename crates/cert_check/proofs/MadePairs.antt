-- Pairs of members whose covers the origins tell.
use Rattle.std.proofs.Common.{◌≡◌, inl, inr, ℕ, suc, ◌+◌, ◌<◌, ◌≤◌, List, [], ◌∷◌, ◌++◌, length, refl, ap, sym, subst, arith, append_assoc, false, Some}
use Rattle.std.specs.Prelude.{Contains, slice_get}
use Rattle.std.proofs.lemmas.List.{length-map}
use Rattle.std.proofs.lemmas.Option.{slice_get_within}
use Rattle.inst_logic.specs.Substitution.{Substitution, tree_vars}
use Rattle.inst_logic.specs.Tree.{Tree}
use Rattle.inst_logic.specs.Unifiers.{Sided, IsProper}
use Rattle.inst_calculus.specs.Models.{SelectedClause}
use Rattle.cert_format.specs.Dues.{meeting}
use Rattle.cert_format.specs.Validity.{CoversAt, IsProperPair, IsValidBase, SelectsAt}
use Rattle.cert_values.specs.declared.certificate.Covered.{Covered}
use Rattle.cert_values.specs.declared.certificate.Saturation.{Saturation}
use Rattle.cert_values.specs.Values.{base_of, covered_of, entry_of, saturation_of, side_of}
use Rattle.cert_values.specs.Wholes.{HasPlaces}
use Rattle.unify_core.specs.declared.side.Side.TheVariants.{Left, Right}
use Rattle.cert_check.specs.declared.compare.Progress.{Progress}
use Rattle.cert_check.specs.declared.due_side.DueSide.{DueSide}
use Rattle.cert_check.specs.Closings.{IsGeneralOn}
use Rattle.cert_check.specs.DueSteps.{AreCompared, GivesPair, due_of}
use Rattle.cert_check.specs.Made.{AreMade, on_left, on_both, on_right, HasGroundAtom, IsMadeAt, IsPassed, left_of, right_of}
use Rattle.cert_check.proofs.CompareLaws.{cover_there}
use Rattle.cert_check.proofs.DueLaws.{more_right}
use Rattle.cert_check.proofs.MadeLaws.{made_meets, made_proper, made_right}

-- no substitution is proper for a tree without variables
never_proper : (s : Substitution) (t : Tree) → tree_vars t ≡ [] → ¬ IsProper s t
never_proper s t none (v, inside, k) = let (x, less, e) = subst (λ (vs : List ℕ). Contains vs v) none inside in absurd (omega (arith, less))

pub made_within : (c : Saturation) (v : Covered) (i j place count : ℕ) → AreMade c v.covers i j place count → place + count ≤ length v.covers
made_within c v i j place count (on_left h ground is) = let w = slice_get_within v.covers place h.cover h.at in omega (arith, w, is)
made_within c v i j place count (on_both h k is) = let w = slice_get_within v.covers (place + 1) k.cover k.at in omega (arith, w, is)
made_within c v i j place count (on_right h ground is) = let w = slice_get_within v.covers place h.cover h.at in omega (arith, w, is)

module _ (c : Covered) (base : IsValidBase (base_of c.cert.base)) (placed : HasPlaces (saturation_of c.cert)) where
  member_at : (k : ℕ) → k < length c.cert.base.members → (m : SelectedClause) × SelectsAt (saturation_of c.cert) (suc k) m
  member_at k less = let e = length-map c.cert.base.members (entry_of c.cert.base.bank) in placed (suc k) (omega arith) (omega (arith, e, less))

  -- the cover is one of what is due
  covers_there : (due : DueSide) (place : ℕ) (h : IsMadeAt c.cert c.covers due place) (m n : SelectedClause) → SelectsAt (saturation_of c.cert) (suc due.own) m → SelectsAt (saturation_of c.cert) (suc due.other) n
      → (s : Sided) → IsGeneralOn due.side s m.selected.atom n.selected.atom
      → CoversAt (saturation_of c.cert).base.members (Some (due_of due.side due.own due.other m s)) (slice_get (covered_of c).covers place)
  covers_there due place h m n at_m at_n s general =
      let (clause, holds) = made_right c.cert base placed due h.cover h.made m n at_m at_n s general in
      subst (CoversAt (saturation_of c.cert).base.members (Some (due_of due.side due.own due.other m s))) (sym (cover_there c place (Some h.cover) h.at))
      (record { left = h.left; right = h.right; side = ap side_of h.side; clause = clause; holds = holds })

  module _ (i j : ℕ) (left : i < length c.cert.base.members) (right : j < length c.cert.base.members) (p : Progress) (none_wrong : p.wrong ≡ false) where
    proper_left : IsMadeAt c.cert c.covers (left_of i j) p.count → IsProperPair (saturation_of c.cert) (suc i) (suc j)
    proper_left h less m n at_m at_n signs s general = inl (made_proper c.cert base placed (left_of i j) h.cover h.made m n at_m at_n s general)

    proper_right : IsMadeAt c.cert c.covers (right_of i j) p.count → IsProperPair (saturation_of c.cert) (suc i) (suc j)
    proper_right h less m n at_m at_n signs s general = inr (made_proper c.cert base placed (right_of i j) h.cover h.made n m at_n at_m s general)

    gives_left : IsMadeAt c.cert c.covers (left_of i j) p.count → HasGroundAtom c.cert (suc j)
        → GivesPair (saturation_of c.cert) (suc i) (suc j) (AreCompared (covered_of c) p) (AreCompared (covered_of c) (record { count = p.count + 1; wrong = p.wrong }))
    gives_left h ground =
        let (m, at_m) = member_at i left in
        let (n, at_n) = member_at j right in
        let (signs, s, general) = made_meets c.cert base placed (left_of i j) h.cover h.made m n at_m at_n in
        let d = due_of Left i j m s in (
          d ∷ [],
          meeting m n at_m at_n signs s general (d ∷ []) []
              (inl (made_proper c.cert base placed (left_of i j) h.cover h.made m n at_m at_n s general, refl))
              (inr (never_proper s.right n.selected.atom (ground n at_n), refl)) refl,
          λ ds k. more_right (covered_of c) p ds k none_wrong d (covers_there (left_of i j) p.count h m n at_m at_n s general),
        )

    gives_right : IsMadeAt c.cert c.covers (right_of i j) p.count → HasGroundAtom c.cert (suc i)
        → GivesPair (saturation_of c.cert) (suc i) (suc j) (AreCompared (covered_of c) p) (AreCompared (covered_of c) (record { count = p.count + 1; wrong = p.wrong }))
    gives_right h ground =
        let (m, at_m) = member_at i left in
        let (n, at_n) = member_at j right in
        let (signs, s, general) = made_meets c.cert base placed (right_of i j) h.cover h.made n m at_n at_m in
        let d = due_of Right j i n s in (
          d ∷ [],
          meeting m n at_m at_n (λ e. signs (sym e)) s general [] (d ∷ [])
              (inr (never_proper s.left m.selected.atom (ground m at_m), refl))
              (inl (made_proper c.cert base placed (right_of i j) h.cover h.made n m at_n at_m s general, refl)) refl,
          λ ds k. more_right (covered_of c) p ds k none_wrong d (covers_there (right_of i j) p.count h n m at_n at_m s general),
        )

    gives_both : IsMadeAt c.cert c.covers (left_of i j) p.count → IsMadeAt c.cert c.covers (right_of i j) (p.count + 1)
        → GivesPair (saturation_of c.cert) (suc i) (suc j) (AreCompared (covered_of c) p) (AreCompared (covered_of c) (record { count = p.count + 2; wrong = p.wrong }))
    gives_both h k =
        let (m, at_m) = member_at i left in
        let (n, at_n) = member_at j right in
        let (signs, s, general) = made_meets c.cert base placed (left_of i j) h.cover h.made m n at_m at_n in
        let d = due_of Left i j m s in
        let e = due_of Right j i n s in
        let once : Progress = record { count = p.count + 1; wrong = p.wrong } in
        let more : p.count + 1 + 1 ≡ p.count + 2 = omega arith in (
          d ∷ e ∷ [],
          meeting m n at_m at_n signs s general (d ∷ []) (e ∷ [])
              (inl (made_proper c.cert base placed (left_of i j) h.cover h.made m n at_m at_n s general, refl))
              (inl (made_proper c.cert base placed (right_of i j) k.cover k.made n m at_n at_m s general, refl)) refl,
          λ ds a.
              subst (λ (x : ℕ). AreCompared (covered_of c) (record { count = x; wrong = p.wrong }) (ds ++ d ∷ e ∷ [])) more
              (subst (AreCompared (covered_of c) (record { count = p.count + 1 + 1; wrong = p.wrong })) (append_assoc ds (d ∷ []) (e ∷ []))
              (more_right (covered_of c) once (ds ++ d ∷ []) (more_right (covered_of c) p ds a none_wrong d (covers_there (left_of i j) p.count h m n at_m at_n s general)) none_wrong e
              (covers_there (right_of i j) (p.count + 1) k n m at_n at_m s general))),
        )

    counts : (count n : ℕ) → count ≡ n → GivesPair (saturation_of c.cert) (suc i) (suc j) (AreCompared (covered_of c) p) (AreCompared (covered_of c) (record { count = p.count + n; wrong = p.wrong }))
        → GivesPair (saturation_of c.cert) (suc i) (suc j) (AreCompared (covered_of c) p) (AreCompared (covered_of c) (record { count = p.count + count; wrong = p.wrong }))
    counts count n is = subst (λ (x : ℕ). GivesPair (saturation_of c.cert) (suc i) (suc j) (AreCompared (covered_of c) p) (AreCompared (covered_of c) (record { count = p.count + x; wrong = p.wrong }))) (sym is)

    pub made_passes : (count : ℕ) → AreMade c.cert c.covers i j p.count count → IsPassed c i j p (record { count = p.count + count; wrong = p.wrong })
    made_passes count (on_left h ground is) = record {
      proper = proper_left h;
      gives = counts count 1 is (gives_left h ground);
      counted = made_within c.cert c i j p.count count (on_left h ground is);
    }
    made_passes count (on_both h k is) = record {
      proper = proper_left h;
      gives = counts count 2 is (gives_both h k);
      counted = made_within c.cert c i j p.count count (on_both h k is);
    }
    made_passes count (on_right h ground is) = record {
      proper = proper_right h;
      gives = counts count 1 is (gives_right h ground);
      counted = made_within c.cert c i j p.count count (on_right h ground is);
    }
