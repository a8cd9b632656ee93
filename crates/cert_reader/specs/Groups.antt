-- The items that have been read, group by group.
use Rattle.std.specs.Prelude.{◌≡◌, ℕ, ◌+◌, ◌<◌, ◌≤◌, ◌^◌, suc, List, [], ◌∷◌, ◌++◌, length, map, ⊤, All, Bool, false, not, ◌&&◌, nat_eq, IsTrue, Some, slice_get, if◌then◌else◌}
use Rattle.inst_calculus.specs.Entries.{Entry}
use Rattle.inst_logic.specs.declared.signed.Signed.{Signed}
use Rattle.inst_logic.specs.declared.symbol.Sym.{Sym}
use Rattle.term_bank.specs.Forest.{Forest, AreFormed, clause_at}
use Rattle.cert_format.specs.LineMachine.{Item, last_rank}
use Rattle.cert_format.specs.ValueLines.{input_items, axiom_items, member_items, selected_items, ground_items, line_items, step_items, shown_items, cover_items}
use Rattle.cert_values.specs.declared.certificate.Base.{Base}
use Rattle.cert_values.specs.declared.certificate.FirstRefutation.{FirstRefutation}
use Rattle.cert_values.specs.declared.certificate.Refutation.{Refutation}
use Rattle.cert_values.specs.declared.certificate.Saturation.{Saturation}
use Rattle.cert_values.specs.declared.certificate.Covered.{Covered}
use Rattle.cert_values.specs.Values.{entry_of, line_of, step_of, by_of, cover_of}
use Rattle.cert_values.specs.Wholes.{IsWholeClause, IsWholeLine, IsWholeBy, IsWholeCover}
use Rattle.cert_items.specs.Items.{rank_of}
use Rattle.cert_items.specs.declared.shape.TextShape.{TextShape}
use Rattle.cert_items.specs.declared.group.Group.{Group}
use Rattle.cert_items.specs.declared.group.Group.TheVariants as kinds
use Rattle.cert_items.specs.declared.note.Note.{Note}
use Rattle.cert_items.specs.declared.note.Note.TheVariants as notes
use Rattle.cert_reader.specs.declared.certificate.Certificate.{Certificate}
use Rattle.cert_reader.specs.declared.certificate.Certificate.TheVariants as forms
use Rattle.cert_reader.specs.declared.groups.Groups.{Groups}

-- how many items of the group
abbrev pub count_of : Group → Groups → ℕ
count_of kinds.Input g = length g.inputs
count_of kinds.Axiom g = length g.axioms
count_of kinds.Member g = length g.members
count_of kinds.Ground g = length g.grounds + length g.lines
count_of kinds.Step g = length g.steps
count_of kinds.Shown g = length g.shown
count_of kinds.Cover g = length g.covers

-- ---- whose turn it is

-- texts of the shape name what covers their clauses
abbrev pub names_in : TextShape → Bool
names_in shape = not shape.refutation && nat_eq shape.format 3

-- how many inputs and axioms
abbrev pub base_count : Groups → ℕ
base_count g = length g.inputs + length g.axioms

abbrev pub IsAllShown : Groups → Type 0
IsAllShown g = base_count g ≡ length g.shown

-- the clause is that of the first input or axiom that is not shown
abbrev pub IsNextOf : Groups → List (Signed ℕ) → Type 0
IsNextOf g c = slice_get (g.inputs ++ g.axioms) (length g.shown) ≡ Some c

abbrev pub IsInTurn : Group → Groups → List (Signed ℕ) → Type 0
IsInTurn kinds.Input g c = suc (base_count g) < 2 ^ 64
IsInTurn kinds.Axiom g c = suc (base_count g) < 2 ^ 64
IsInTurn kinds.Member g c = ⊤
IsInTurn kinds.Ground g c = ⊤
IsInTurn kinds.Step g c = ⊤
IsInTurn kinds.Shown g c = IsNextOf g c
IsInTurn kinds.Cover g c = IsAllShown g

abbrev pub TakesTurn : TextShape → Group → Groups → List (Signed ℕ) → Type 0
TakesTurn shape k g c = IsTrue (names_in shape) → IsInTurn k g c

-- ---- one more item

-- with one more item, of this note and clause
abbrev pub pushed : Note → List (Signed ℕ) → Groups → Groups
pushed (notes.Named w) c g = record g { inputs = g.inputs ++ c ∷ []; names = g.names ++ w ∷ []; last = kinds.Input }
pushed notes.Equality c g = record g { axioms = g.axioms ++ c ∷ []; last = kinds.Axiom }
pushed (notes.Member o) c g = record g { members = g.members ++ record { clause = c; origin = o } ∷ []; last = kinds.Member }
pushed (notes.Selected o p) c g = record g { members = g.members ++ record { clause = c; origin = o } ∷ []; places = g.places ++ p ∷ []; last = kinds.Member }
pushed notes.Ground c g = record g { grounds = g.grounds ++ c ∷ []; last = kinds.Ground }
pushed (notes.GroundBy k ts) c g = record g { lines = g.lines ++ record { clause = c; input = k; terms = ts } ∷ []; last = kinds.Ground }
pushed (notes.Hinted hs) c g = record g { steps = g.steps ++ record { clause = c; hints = hs } ∷ []; last = kinds.Step }
pushed (notes.InputBy by) c g = record g { shown = g.shown ++ by ∷ []; last = kinds.Shown }
pushed (notes.SideBy left right side by) c g = record g { covers = g.covers ++ record { left = left; right = right; side = side; clause = c; by = by } ∷ []; last = kinds.Cover }

-- ---- the items

-- members have places in a saturation
abbrev pub members_by : TextShape → List Entry → List ℕ → List Item
members_by shape es ps = if shape.refutation then member_items es else selected_items es ps

-- the items, in the order of a text of the shape
abbrev pub items_of : TextShape → Forest → Groups → List Item
items_of shape f g = input_items (map (clause_at f) g.inputs) g.names ++ (axiom_items (map (clause_at f) g.axioms) ++ (members_by shape (map (entry_of f) g.members) g.places
    ++ ((ground_items (map (clause_at f) g.grounds) ++ line_items (map (line_of f) g.lines)) ++ (step_items (map (step_of f) g.steps)
    ++ (shown_items (map (clause_at f) g.inputs ++ map (clause_at f) g.axioms) (map (by_of f) g.shown) ++ cover_items (map (cover_of f) g.covers))))))

-- What a text of the shape has and has not: a saturation has a place for each member, and neither ground clauses nor steps; a
-- refutation has ground clauses as its format has them; and covers stand where they are named.
pub record HasForm (shape : TextShape) (g : Groups) : Type 0 where
  pub placed : shape.refutation ≡ false → length g.places ≡ length g.members
  pub grounds : (shape.refutation && nat_eq shape.format 1) ≡ false → g.grounds ≡ []
  pub lines : (shape.refutation && not (nat_eq shape.format 1)) ≡ false → g.lines ≡ []
  pub steps : shape.refutation ≡ false → g.steps ≡ []
  pub shown : names_in shape ≡ false → g.shown ≡ []
  pub covers : names_in shape ≡ false → g.covers ≡ []

-- the items have clauses and terms of the bank, and the last one is of that group
pub record AreGroups (shape : TextShape) (f : Forest) (g : Groups) : Type 0 where
  pub bank : AreFormed f
  pub inputs : All (IsWholeClause f) g.inputs
  pub named : length g.names ≡ length g.inputs
  pub axioms : All (IsWholeClause f) g.axioms
  pub members : All (λ m. IsWholeClause f m.clause) g.members
  pub grounds : All (IsWholeClause f) g.grounds
  pub lines : All (IsWholeLine f) g.lines
  pub steps : All (λ s. IsWholeClause f s.clause) g.steps
  pub shown : All (IsWholeBy f) g.shown
  pub few : length g.shown ≤ base_count g
  pub covers : All (IsWholeCover f) g.covers
  pub form : HasForm shape g
  pub last : last_rank (items_of shape f g) ≡ rank_of g.last

-- ---- the certificate of the items

abbrev pub base_by : Forest → Groups → Base
base_by f g = record { bank = f; inputs = g.inputs; names = g.names; axioms = g.axioms; members = g.members }

abbrev pub first_by : Forest → Groups → Sym → FirstRefutation
first_by f g bot = record { base = base_by f g; bot = bot; grounds = g.grounds; steps = g.steps }

abbrev pub refutation_by : Forest → Groups → Sym → Refutation
refutation_by f g bot = record { base = base_by f g; bot = bot; grounds = g.lines; steps = g.steps }

abbrev pub saturation_by : Forest → Groups → Saturation
saturation_by f g = record { base = base_by f g; places = g.places }

abbrev pub covered_by : Forest → Groups → Covered
covered_by f g = record { cert = saturation_by f g; shown = g.shown; covers = g.covers }

abbrev pub refuted_by : ℕ → Forest → Groups → Sym → Certificate
refuted_by format f g bot = if nat_eq format 1 then forms.First (first_by f g bot) else forms.Refutation (refutation_by f g bot)

abbrev pub saturated_by : ℕ → Forest → Groups → Certificate
saturated_by format f g = if nat_eq format 3 then forms.Covered (covered_by f g) else forms.Saturation (saturation_by f g)
