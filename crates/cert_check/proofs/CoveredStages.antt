-- The stages of the check of a saturation with its covers.
use Rattle.std.proofs.Common.{◌≡◌, ℕ, ◌<◌, sym, subst, arith, ◌⊎◌, inl, inr}
use Rattle.cert_format.specs.Certificate.{Covered}
use Rattle.cert_format.specs.Validity.{CoversPass, IsFirstComplaint, IsNamed, IsProperPair, IsRightCover, IsRightPlace, IsShownInput, IsValidBase, Precedes}
use Rattle.cert_format.specs.declared.complaint.Complaint.{Complaint}
use Rattle.cert_format.specs.declared.complaint.Complaint.TheVariants.{Axiom, Member as Derived, Bot, Ground, Step as Shown, NotEmpty, Place, Input, Pair, Cover as Named}
use Rattle.cert_check.specs.Firsts.{IsFirstWrong}
use Rattle.cert_check.specs.FirstPairs.{IsFirstWrongPair}
use Rattle.cert_check.proofs.Bases.{at_most, smaller}

module _ (c : Covered) (base : IsValidBase c.saturation.base) where
  first_by : (k : Complaint) → ¬ CoversPass c k → ((n : ℕ) → Precedes (Place n) k → IsRightPlace c.saturation n) → ((n : ℕ) → Precedes (Input n) k → IsShownInput c n)
      → ((l r : ℕ) → Precedes (Pair l r) k → IsProperPair c.saturation l r) → ((n : ℕ) → Precedes (Named n) k → IsRightCover c n) → IsFirstComplaint (CoversPass c) k
  first_by k applies places inputs pairs covers = record { applies = applies; first = earlier }
    where
      earlier : (other : Complaint) → Precedes other k → CoversPass c other
      earlier (Axiom n) p = base (Axiom n)
      earlier (Derived n) p = base (Derived n)
      earlier Bot p = tt
      earlier (Ground n) p = tt
      earlier (Shown n) p = tt
      earlier NotEmpty p = tt
      earlier (Place n) p = places n p
      earlier (Input n) p = inputs n p
      earlier (Pair l r) p = pairs l r p
      earlier (Named n) p = covers n p

  pub place_first : (n : ℕ) → IsFirstWrong (IsRightPlace c.saturation) n → IsFirstComplaint (CoversPass c) (Place n)
  place_first n h =
      first_by (Place n) h.applies (λ m p. h.before m (smaller 6 m n p)) (λ m p. let q = at_most (Input m) (Place n) p in absurd (omega arith))
      (λ l r p. let q = at_most (Pair l r) (Place n) p in absurd (omega arith)) (λ m p. let q = at_most (Named m) (Place n) p in absurd (omega arith))

  module _ (places : (n : ℕ) → IsRightPlace c.saturation n) where
    pub input_first : (n : ℕ) → IsFirstWrong (IsShownInput c) n → IsFirstComplaint (CoversPass c) (Input n)
    input_first n h =
        first_by (Input n) h.applies (λ m p. places m) (λ m p. h.before m (smaller 7 m n p))
        (λ l r p. let q = at_most (Pair l r) (Input n) p in absurd (omega arith)) (λ m p. let q = at_most (Named m) (Input n) p in absurd (omega arith))

    module _ (inputs : (n : ℕ) → IsShownInput c n) where
      pub pair_first : (left right : ℕ) → IsFirstWrongPair (IsProperPair c.saturation) left right → IsFirstComplaint (CoversPass c) (Pair left right)
      pair_first left right h =
          first_by (Pair left right) h.applies (λ m p. places m) (λ m p. inputs m) pairs (λ m p. let q = at_most (Named m) (Pair left right) p in absurd (omega arith))
        where
          pairs : (l r : ℕ) → (8 < 8) ⊎ ((◌≡◌ {A = ℕ} 8 8) × (l < left)) ⊎ ((◌≡◌ {A = ℕ} 8 8) × (l ≡ left) × (r < right)) → IsProperPair c.saturation l r
          pairs l r (inl p) = absurd (omega arith)
          pairs l r (inr (inl p)) = h.before l p.1 r
          pairs l r (inr (inr p)) = subst (λ n. IsProperPair c.saturation n r) (sym p.1) (h.beside r p.2)

      module _ (pairs : (l r : ℕ) → IsProperPair c.saturation l r) where
        pub cover_first : (n : ℕ) → IsFirstWrong (IsRightCover c) n → IsFirstComplaint (CoversPass c) (Named n)
        cover_first n h = first_by (Named n) h.applies (λ m p. places m) (λ m p. inputs m) (λ l r p. pairs l r) (λ m p. h.before m (smaller 9 m n p))

        pub all_right : ((n : ℕ) → IsRightCover c n) → IsNamed c
        all_right covers (Axiom n) = base (Axiom n)
        all_right covers (Derived n) = base (Derived n)
        all_right covers Bot = tt
        all_right covers (Ground n) = tt
        all_right covers (Shown n) = tt
        all_right covers NotEmpty = tt
        all_right covers (Place n) = places n
        all_right covers (Input n) = inputs n
        all_right covers (Pair l r) = pairs l r
        all_right covers (Named n) = covers n
