-- Covers that the origins of the members that they name tell.
use Rattle.std.specs.Prelude.{◌≡◌, ℕ, suc, ◌+◌, ◌≤◌, List, [], length, Some, slice_get}
use Rattle.inst_logic.specs.Substitution.{tree_vars}
use Rattle.inst_calculus.specs.Models.{SelectedClause}
use Rattle.cert_format.specs.Validity.{IsProperPair, SelectsAt}
use Rattle.cert_values.specs.declared.certificate.Cover.{Cover}
use Rattle.cert_values.specs.declared.certificate.Covered.{Covered}
use Rattle.cert_values.specs.declared.certificate.Saturation.{Saturation}
use Rattle.cert_values.specs.Values.{covered_of, saturation_of}
use Rattle.unify_core.specs.declared.side.Side.TheVariants.{Left, Right}
use Rattle.cert_check.specs.Compared.{IsMadeCover}
use Rattle.cert_check.specs.DueSteps.{AreCompared, GivesPair}
use Rattle.cert_check.specs.Sides.{left_number, right_number}
use Rattle.cert_check.specs.declared.compare.Progress.{Progress}
use Rattle.cert_check.specs.declared.due_side.DueSide.{DueSide}

-- the two sides of members i and j, counted from 0
abbrev pub left_of : ℕ → ℕ → DueSide
left_of i j = record { side = Left; own = i; other = j }

abbrev pub right_of : ℕ → ℕ → DueSide
right_of i j = record { side = Right; own = j; other = i }

-- the cover at the place is that of the side, and the origin of the member that it names tells it
pub record IsMadeAt (c : Saturation) (vs : List Cover) (due : DueSide) (place : ℕ) : Type 0 where
  pub cover : Cover
  pub at : slice_get vs place ≡ Some cover
  pub left : cover.left ≡ left_number due.side due.own due.other
  pub right : cover.right ≡ right_number due.side due.own due.other
  pub side : cover.side ≡ due.side
  pub made : IsMadeCover c due cover

-- the selected atom of member n has no variables
abbrev pub HasGroundAtom : Saturation → ℕ → Type 0
HasGroundAtom c n = (m : SelectedClause) → SelectsAt (saturation_of c) n m → tree_vars m.selected.atom ≡ []

-- so many covers from the place on are told, and no other is due of members i and j
pub data AreMade (c : Saturation) (vs : List Cover) (i j place count : ℕ) : Type 0 where
  on_left : IsMadeAt c vs (left_of i j) place → HasGroundAtom c (suc j) → count ≡ 1 → AreMade c vs i j place count
  on_both : IsMadeAt c vs (left_of i j) place → IsMadeAt c vs (right_of i j) (place + 1) → count ≡ 2 → AreMade c vs i j place count
  on_right : IsMadeAt c vs (right_of i j) place → HasGroundAtom c (suc i) → count ≡ 1 → AreMade c vs i j place count

-- the covers of members i and j were compared, and were right
pub record IsPassed (c : Covered) (i j : ℕ) (p q : Progress) : Type 0 where
  pub proper : IsProperPair (saturation_of c.cert) (suc i) (suc j)
  pub gives : GivesPair (saturation_of c.cert) (suc i) (suc j) (AreCompared (covered_of c) p) (AreCompared (covered_of c) q)
  pub counted : q.count ≤ length c.covers
