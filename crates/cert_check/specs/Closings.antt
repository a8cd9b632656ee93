-- Sides and pairs of members that are closed for the unifier that bindings stand for.
use Rattle.std.specs.Prelude.{◌↔◌, ◌⊎◌, ℕ, List, Bool, IsTrue}
use Rattle.inst_logic.specs.Tree.{Tree}
use Rattle.inst_logic.specs.Clauses.{instance}
use Rattle.inst_logic.specs.Unifiers.{Sided, IsMostGeneral, IsProper}
use Rattle.inst_calculus.specs.Models.{SelectedClause, member_clauses}
use Rattle.inst_calculus.specs.Saturation.{IsClosed, IsCovered}
use Rattle.term_bank.specs.Forest.{Forest}
use Rattle.cert_format.specs.Certificate.{selected_members}
use Rattle.cert_format.specs.Validity.{SelectsAt}
use Rattle.unify_core.specs.Sides.{Binding, IsResolvedBy, of_side}
use Rattle.unify_core.specs.declared.side.Side.{Side}
use Rattle.unify_core.specs.declared.side.Side.TheVariants.{Left, Right}
use Rattle.cert_values.specs.declared.certificate.Saturation.{Saturation}
use Rattle.cert_values.specs.Values.{saturation_of}

-- the instance of the member on the side is covered
abbrev pub HasCoveredSide : Saturation → Sided → Side → SelectedClause → Type 0
HasCoveredSide c s side m = IsCovered (member_clauses (selected_members (saturation_of c))) m.clause (instance (of_side s side) m.clause)

-- the answer is whether the instance of member n on the side is covered
abbrev pub IsSideCovered : Saturation → List Binding → Side → ℕ → Bool → Type 0
IsSideCovered c es side n r = (s : Sided) → IsResolvedBy c.base.bank es s → (m : SelectedClause) → SelectsAt (saturation_of c) n m → IsTrue r ↔ HasCoveredSide c s side m

-- a most general unifier with the first tree on the side
abbrev pub IsGeneralOn : Side → Sided → Tree → Tree → Type 0
IsGeneralOn Left s a b = IsMostGeneral s a b
IsGeneralOn Right s a b = IsMostGeneral s b a

-- the answer is whether the instance of member i by member j, which is on the other side, is covered if the unifier is proper for it
abbrev pub IsSideClosed : Saturation → List Binding → Side → ℕ → ℕ → Bool → Type 0
IsSideClosed c es side i j r = (s : Sided) → IsResolvedBy c.base.bank es s → (m n : SelectedClause) → SelectsAt (saturation_of c) i m → SelectsAt (saturation_of c) j n → IsGeneralOn side s m.selected.atom n.selected.atom
    → IsTrue r ↔ (IsProper (of_side s side) m.selected.atom → HasCoveredSide c s side m)

-- the answer is whether the unifier is proper on the side
abbrev pub IsProperOn : Forest → List Binding → Side → Bool → Type 0
IsProperOn f es side r = (s : Sided) → IsResolvedBy f es s → (a b : Tree) → IsGeneralOn side s a b → IsTrue r ↔ IsProper (of_side s side) a

-- the answer is whether the unifier is proper on a side
abbrev pub IsProperSomewhere : Forest → List Binding → Bool → Type 0
IsProperSomewhere f es r = (s : Sided) → IsResolvedBy f es s → (a b : Tree) → IsMostGeneral s a b → IsTrue r ↔ (IsProper s.left a ⊎ IsProper s.right b)

-- the answer is whether members i and j are closed for the unifier
abbrev pub IsPairClosed : Saturation → List Binding → ℕ → ℕ → Bool → Type 0
IsPairClosed c es i j r = (s : Sided) → IsResolvedBy c.base.bank es s → (m n : SelectedClause) → SelectsAt (saturation_of c) i m → SelectsAt (saturation_of c) j n → IsMostGeneral s m.selected.atom n.selected.atom
    → IsTrue r ↔ IsClosed (selected_members (saturation_of c)) m n s
