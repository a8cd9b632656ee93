-- The stages of the check of a saturation.
use Rattle.std.proofs.Common.{◌≡◌, ℕ, ◌<◌, refl, ap, sym, ◌∙◌, subst, arith, ◌⊎◌, inl, inr}
use Rattle.std.specs.Prelude.{Option, None, Some}
use Rattle.term_bank.specs.Forest.{Forest, AreFormed, Extends}
use Rattle.cert_format.specs.Certificate as format
use Rattle.cert_format.specs.Validity.{IsRightPlace, IsRightInput, IsRightPair, SaturationPasses, IsFirstComplaint, IsValidSaturation, Precedes}
use Rattle.cert_format.specs.declared.complaint.Complaint.{Complaint}
use Rattle.cert_format.specs.declared.complaint.Complaint.TheVariants.{Axiom, Member as Derived, Bot, Ground, Step as Shown, NotEmpty, Place, Input, Pair, Cover as Named}
use Rattle.cert_values.specs.declared.certificate.Base.{Base}
use Rattle.cert_values.specs.declared.certificate.Saturation.{Saturation}
use Rattle.cert_values.specs.Values.{saturation_of}
use Rattle.cert_values.specs.Wholes.{IsWholeBase, IsWholeSaturation, KeepsBase, KeepsSaturation}
use Rattle.cert_format.specs.Validity.{IsValidBase}
use Rattle.cert_check.specs.Firsts.{IsFirstWrong}
use Rattle.cert_check.specs.FirstPairs.{IsFirstWrongPair, IsFirstWrongPairOf}
use Rattle.cert_check.proofs.Bases.{base_same, at_most, smaller}
use Rattle.cert_values.proofs.Grown.{clauses_grown, members_grown}
use Rattle.cert_check.proofs.Refutations.{keeps_trans}

pub saturation_same : (old new : Saturation) → IsWholeSaturation old → KeepsSaturation old new → saturation_of new ≡ saturation_of old
saturation_same old new whole kept =
    ap saturation_of kept.rest
    ∙ (λ i. record { base = base_same old.base new.base whole kept.base i; places = old.places })

pub keeps_saturation : (s : Saturation) (b : Base) → KeepsBase s.base b → KeepsSaturation s (record s { base = b })
keeps_saturation s b kept = record { base = kept; rest = refl }

pub keeps_saturation_trans : (a b c : Saturation) → KeepsSaturation a b → KeepsSaturation b c → KeepsSaturation a c
keeps_saturation_trans a b c p q = record {
  base = keeps_trans a.base b.base c.base p.base q.base;
  rest = q.rest ∙ ap (λ (x : Saturation). record x { base = c.base }) p.rest;
}

-- a base with a grown bank
pub base_grown : (b : Base) (g : Forest) → Extends b.bank g → AreFormed g → IsWholeBase b → IsWholeBase (record b { bank = g })
base_grown b g grown formed whole = record {
  bank = formed;
  inputs = clauses_grown b.bank g grown b.inputs whole.inputs;
  axioms = clauses_grown b.bank g grown b.axioms whole.axioms;
  members = members_grown b.bank g grown b.members whole.members;
}

pub keeps_grown : (b : Base) (g : Forest) → Extends b.bank g → KeepsBase b (record b { bank = g })
keeps_grown b g grown = record { bank = grown; rest = refl }

-- the checks that come before a complaint, by their kinds
module _ (c : format.Saturation) (base : IsValidBase c.base) where
  first_by : (k : Complaint) → ¬ SaturationPasses c k → ((n : ℕ) → Precedes (Place n) k → IsRightPlace c n)
      → ((n : ℕ) → Precedes (Input n) k → IsRightInput c n) → ((l r : ℕ) → Precedes (Pair l r) k → IsRightPair c l r) → IsFirstComplaint (SaturationPasses c) k
  first_by k applies places inputs pairs = record { applies = applies; first = earlier }
    where
      earlier : (other : Complaint) → Precedes other k → SaturationPasses c other
      earlier (Axiom n) p = base (Axiom n)
      earlier (Derived n) p = base (Derived n)
      earlier Bot p = tt
      earlier (Ground n) p = tt
      earlier (Shown n) p = tt
      earlier NotEmpty p = tt
      earlier (Place n) p = places n p
      earlier (Input n) p = inputs n p
      earlier (Pair l r) p = pairs l r p
      earlier (Named n) p = tt

  pub place_first : (n : ℕ) → IsFirstWrong (IsRightPlace c) n → IsFirstComplaint (SaturationPasses c) (Place n)
  place_first n h =
      first_by (Place n) h.applies (λ m p. h.before m (smaller 6 m n p))
      (λ m p. let q = at_most (Input m) (Place n) p in absurd (omega arith))
      (λ l r p. let q = at_most (Pair l r) (Place n) p in absurd (omega arith))

  pub input_first : ((n : ℕ) → IsRightPlace c n) → (n : ℕ) → IsFirstWrong (IsRightInput c) n → IsFirstComplaint (SaturationPasses c) (Input n)
  input_first places n h =
      first_by (Input n) h.applies (λ m p. places m) (λ m p. h.before m (smaller 7 m n p))
      (λ l r p. let q = at_most (Pair l r) (Input n) p in absurd (omega arith))

  pub pair_first : ((n : ℕ) → IsRightPlace c n) → ((n : ℕ) → IsRightInput c n) → (left right : ℕ) → IsFirstWrongPair (IsRightPair c) left right → IsFirstComplaint (SaturationPasses c) (Pair left right)
  pair_first places inputs left right h = first_by (Pair left right) h.applies (λ m p. places m) (λ m p. inputs m) pairs
    where
      pairs : (l r : ℕ) → (8 < 8) ⊎ ((◌≡◌ {A = ℕ} 8 8) × (l < left)) ⊎ ((◌≡◌ {A = ℕ} 8 8) × (l ≡ left) × (r < right)) → IsRightPair c l r
      pairs l r (inl p) = absurd (omega arith)
      pairs l r (inr (inl p)) = h.before l p.1 r
      pairs l r (inr (inr p)) = subst (λ n. IsRightPair c n r) (sym p.1) (h.beside r p.2)

  pub all_right : ((n : ℕ) → IsRightPlace c n) → ((n : ℕ) → IsRightInput c n) → ((l r : ℕ) → IsRightPair c l r) → IsValidSaturation c
  all_right places inputs pairs (Axiom n) = base (Axiom n)
  all_right places inputs pairs (Derived n) = base (Derived n)
  all_right places inputs pairs Bot = tt
  all_right places inputs pairs (Ground n) = tt
  all_right places inputs pairs (Shown n) = tt
  all_right places inputs pairs NotEmpty = tt
  all_right places inputs pairs (Place n) = places n
  all_right places inputs pairs (Input n) = inputs n
  all_right places inputs pairs (Pair l r) = pairs l r
  all_right places inputs pairs (Named n) = tt

pub bank_same : (s : Saturation) (g : Forest) → IsWholeSaturation s → Extends s.base.bank g → saturation_of (record s { base = record s.base { bank = g } }) ≡ saturation_of s
bank_same s g whole grown =
    saturation_same s (record s { base = record s.base { bank = g } }) whole (keeps_saturation s (record s.base { bank = g }) (keeps_grown s.base g grown))

pub some_pair : (P : ℕ → ℕ → Type 0) (r : Option (ℕ × ℕ)) (l m : ℕ) → IsFirstWrongPairOf P r → r ≡ Some (l, m) → IsFirstWrongPair P l m
some_pair P r l m h is = subst (IsFirstWrongPairOf P) is h

pub none_pair : (P : ℕ → ℕ → Type 0) (r : Option (ℕ × ℕ)) → IsFirstWrongPairOf P r → ((p : ℕ × ℕ) → r ≡ Some p → ⊥) → (l m : ℕ) → P l m
none_pair P None h other = h
none_pair P (Some p) h other = absurd (other p refl)
